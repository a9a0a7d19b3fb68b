use Rattle.std.proofs.Common.{◌≤◌, drop}
use Rattle.registry_pack.specs.declared.extent.Extent.{Extent}
use Rattle.registry_pack.specs.Extents.{total_of}
use Rattle.registry_pack.specs.Content.{IsRunFrom}
use Rattle.registry_pack.proofs.content.run_from.Given as goal

abbrev pub invariant-loop-extent : goal.invariant-loop-extent
invariant-loop-extent l =
    record {
      runs : (e : Extent) → IsRunFrom (drop l.extent-index l.extents) l.left e → IsRunFrom l.extents l.from e;
      none : total_of (drop l.extent-index l.extents) ≤ l.left → total_of l.extents ≤ l.from;
    }
