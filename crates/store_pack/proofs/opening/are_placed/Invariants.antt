use Rattle.std.proofs.Common.{ℕ, ◌<◌, get_or}
use Rattle.registry_pack.specs.declared.extent.Extent.{Extent}
use Rattle.store_pack.specs.Contents.{IsPlaced}
use Rattle.store_pack.proofs.opening.are_placed.Given as goal

-- those so far have bytes, and none in the head
abbrev pub invariant-loop-extent : goal.invariant-loop-extent
invariant-loop-extent l = (k : ℕ) (d : Extent) → k < l.extent-index → IsPlaced ((get_or l.extents k d).at, (get_or l.extents k d).size)
