use Rattle.std.proofs.Common.{take}
use Rattle.registry_pack.proofs.SpaceLemmas.{AreAlike}
use Rattle.registry_pack.proofs.space.Space.of.Given as goal

abbrev pub invariant-loop-extent : goal.invariant-loop-extent
invariant-loop-extent l = AreAlike l.space.holes.items (take l.extent-index l.extent-items)
