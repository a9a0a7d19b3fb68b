use Rattle.registry_pack.proofs.SpaceLemmas.{Gaps}
use Rattle.registry_pack.proofs.space.Space.gaps.Given as goal

abbrev pub invariant-loop-hole : goal.invariant-loop-hole
invariant-loop-hole l = Gaps l.self.holes.items l.from l.to l.at l.hole-index l.space.holes.items
