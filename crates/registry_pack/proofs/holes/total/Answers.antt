use Rattle.std.proofs.Common.{arith}
use Rattle.registry_pack.proofs.TotalLemmas.{total_fits, total_of-next, total_of-all}
use Rattle.registry_pack.proofs.holes.total.Goals as goal

pub overflow_add-total : goal.overflow_add-total
overflow_add-total c =
    let more = total_of-next c.args.holes.now c.loop-hole.hole-index c.loop-hole.total c.loop-hole.invariant (omega arith) c.hole-item.result c.hole-item.is in
    omega (arith, more, total_fits c.args.holes.now c.requires)

pub loop-hole-preserved : goal.loop-hole-preserved
loop-hole-preserved c =
    let more = total_of-next c.args.holes.now c.loop-hole.hole-index c.loop-hole.total c.loop-hole.invariant (omega arith) c.hole-item.result c.hole-item.is in
    omega (arith, more)

pub returns-clause-total : goal.returns-clause-total
returns-clause-total c = total_of-all c.args.holes.now c.loop-hole.hole-index c.loop-hole.total c.loop-hole.invariant (omega arith)

pub returns-clause-fits : goal.returns-clause-fits
returns-clause-fits c =
    let all = total_of-all c.args.holes.now c.loop-hole.hole-index c.loop-hole.total c.loop-hole.invariant (omega arith) in
    omega (arith, all, total_fits c.args.holes.now c.requires)
