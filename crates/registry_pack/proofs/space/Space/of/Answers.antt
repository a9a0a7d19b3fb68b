use Rattle.std.proofs.Common.{List, subst, arith}
use Rattle.registry_pack.specs.declared.extent.Extent.{Extent}
use Rattle.registry_pack.proofs.SpaceLemmas.{AreAlike, AreAlike-more, AreAlike-all, AreAlike-permutation}
use Rattle.registry_pack.proofs.space.Space.of.Goals as goal

pub loop-extent-preserved : goal.loop-extent-preserved
loop-extent-preserved c =
    AreAlike-more c.deref-extent-items.result.now c.loop-extent.extent-index c.extent-item.result (omega arith) c.extent-item.is
    c.loop-extent.space.holes.items c.give.new.self.holes.items c.loop-extent.invariant c.in_ok-give.ensures.ok

pub returns : goal.returns
returns c =
    let sorted = c.sort_unstable_by_key.new.self.items in
    let found = c.loop-extent.space.holes.items in
    let alike = AreAlike-all c.deref-extent-items.result.now c.loop-extent.extent-index found (omega arith) c.loop-extent.invariant in
    AreAlike-permutation c.args.extents.items sorted c.sort_unstable_by_key.ensures.permutation found
    (subst (λ (l : List Extent). AreAlike found l) c.deref-extent-items.ensures.value alike)
