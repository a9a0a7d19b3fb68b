use Rattle.std.proofs.Common.{arith}
use Rattle.registry_pack.proofs.TrimLemmas.{at_end, free_before_end}
use Rattle.registry_pack.proofs.space.Space.end.Goals as goal

pub returns : goal.returns
returns c =
    let s = c.args.self.now in
    let last = at_end _ s.holes.items _ c.in-Some.hole c.deref.ensures.value c.last.ensures.value c.in-Some.ensures in
    λ p f. omega (arith, free_before_end s.holes.items c.in-Some.hole last s.apart p f)
