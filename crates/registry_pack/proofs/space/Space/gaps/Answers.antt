use Rattle.std.proofs.Common.{◌≡◌, ◌<◌, ◌≤◌, get_or, length, List, arith, ap, ◌∙◌}
use Rattle.registry_pack.specs.declared.extent.Extent.{Extent}
use Rattle.registry_pack.proofs.SpaceLemmas.{Gaps-more, Gaps-end}
use Rattle.registry_pack.proofs.space.Space.gaps.Goals as goal

pub loop-hole-preserved : goal.loop-hole-preserved
loop-hole-preserved c =
    let s = c.args.self.now in
    let h = c.hole-item.result in
    let i = c.loop-hole.hole-index in
    let is : h ≡ get_or s.holes.items i h = c.hole-item.is ∙ ap (λ (l : List Extent). get_or l i h) c.deref-hole-items.ensures.value in
    let lt : i < length s.holes.items = omega (arith, ap (λ (l : List Extent). length l) c.deref-hole-items.ensures.value) in
    Gaps-more s.holes.items c.args.from c.args.to c.loop-hole.at i c.loop-hole.space.holes.items s.apart c.loop-hole.invariant h lt is
    c.min.result c.max-at.result (omega arith) (omega arith) c.between.result c.between.ensures.covers c.give.new.self.holes.items c.in_ok-give.ensures.ok

pub returns : goal.returns
returns c =
    let s = c.args.self.now in
    let i = c.loop-hole.hole-index in
    let le : length s.holes.items ≤ i = omega (arith, ap (λ (l : List Extent). length l) c.deref-hole-items.ensures.value) in
    Gaps-end s.holes.items c.args.from c.args.to c.loop-hole.at i c.loop-hole.space.holes.items c.loop-hole.invariant le
    c.between-2.result c.between-2.ensures.covers c.give-2.new.self.holes.items c.in_ok-give-2.ensures.ok
