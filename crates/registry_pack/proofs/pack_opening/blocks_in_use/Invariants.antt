use Rattle.std.proofs.Common.{ℕ, ◌↔◌, ◌<◌, take}
use Rattle.registry_pack.specs.Holes.{IsFree}
use Rattle.registry_pack.specs.Blocks.{IsInUse}
use Rattle.registry_pack.proofs.pack_opening.blocks_in_use.Given as goal

abbrev pub invariant-loop-extent : goal.invariant-loop-extent
invariant-loop-extent l = (p : ℕ) → IsFree l.blocks.items p ↔ (IsInUse (take l.extent-index l.used) p × (p < l.end))
