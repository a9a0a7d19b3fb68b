use Rattle.std.proofs.Common.{ℕ, ◌+◌, ◌<◌, ◌≤◌, get_or}
use Rattle.registry_pack.specs.declared.extent.Extent.{Extent}
use Rattle.registry_pack.proofs.pack_opening.find_end.Given as goal

abbrev pub invariant-loop-extent : goal.invariant-loop-extent
invariant-loop-extent g l = (k : ℕ) (d : Extent) → k < l.extent-index → (get_or l.used k d).at + (get_or l.used k d).size ≤ l.len
