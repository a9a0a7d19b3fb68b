use Rattle.std.proofs.Common.{ℕ, ◌<◌, ◌≤◌, get_or}
use Rattle.registry_pack.specs.declared.extent.Extent.{Extent}
use Rattle.registry_pack.proofs.holes.largest_hole.Given as goal

abbrev pub invariant-loop-i : goal.invariant-loop-i
invariant-loop-i l = (l.best < l.i) × ((k : ℕ) (d : Extent) → k < l.i → (get_or l.holes k d).size ≤ (get_or l.holes l.best d).size)
