use Rattle.std.proofs.Common.{◌≡◌, ◌+◌, drop}
use Rattle.registry_pack.specs.Extents.{total_of}
use Rattle.registry_pack.proofs.holes.total.Given as goal

abbrev pub invariant-loop-hole : goal.invariant-loop-hole
invariant-loop-hole l = l.total + total_of (drop l.hole-index l.holes) ≡ total_of l.holes
