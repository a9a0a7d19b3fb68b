use Rattle.std.proofs.Common.{arith}
use Rattle.registry_pack.proofs.JoinLemmas.{Joining-start, Joining-more}
use Rattle.registry_pack.proofs.holes.join.Goals as goal

pub loop-until-init : goal.loop-until-init
loop-until-init c =
    Joining-start c.args.holes.now c.args.first c.args.extent c.requires.order c.requires.first c.requires.some

pub loop-until-preserved : goal.loop-until-preserved
loop-until-preserved c =
    let bounds = c.between-joined.ensures.bounds (omega arith) in
    let hole = c.index-holes-until.result in
    Joining-more _ _ _ _ _ c.loop-until.invariant hole (omega arith) c.index-holes-until.is (omega arith) _
    (omega (arith, bounds.0)) (omega (arith, bounds.1))
