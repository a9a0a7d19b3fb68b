use Rattle.std.proofs.Common.{◌≡◌, take}
use Rattle.registry_pack.specs.Extents.{total_of}
use Rattle.store_places.proofs.source.total.Given as goal

-- those so far
abbrev pub invariant-loop-extent : goal.invariant-loop-extent
invariant-loop-extent l = l.total ≡ total_of (take l.extent-index l.extents)
