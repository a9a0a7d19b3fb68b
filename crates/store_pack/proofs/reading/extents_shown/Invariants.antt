use Rattle.std.proofs.Common.{◌≡◌, map, take}
use Rattle.store_places.specs.Places.{runs_at}
use Rattle.store_pack.specs.Reads.{run_shown}
use Rattle.store_pack.proofs.reading.extents_shown.Given as goal

-- the extents so far
abbrev pub invariant-loop-row : goal.invariant-loop-row
invariant-loop-row l = runs_at l.extents.items ≡ map run_shown (take l.row-index l.rows)
