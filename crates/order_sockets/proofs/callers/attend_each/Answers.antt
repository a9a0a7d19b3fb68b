use Rattle.std.proofs.Common.{◌<◌, length, arith}
use Rattle.order_sockets.proofs.CallingLemmas.{rest_more, attended_step}
use Rattle.order_sockets.proofs.callers.attend_each.Goals as goal

pub loop-caller-preserved : goal.loop-caller-preserved
loop-caller-preserved g c =
    let l = c.loop-caller in
    let lt : l.caller-index < length l.callers = omega arith in
    let lt' : l.caller-index < length c.args.callers.now = omega arith in
    record {
      rest = rest_more l.caller-index l.callers c.args.callers.now c.caller-item.result c.attend.new.self lt lt' l.invariant.rest;
      honest = λ h. l.invariant.honest (c.attend.ensures.honest h);
      attends = λ h. attended_step l.caller-index l.callers c.args.callers.now c.caller-item.result c.attend.new.self (g.K.Keeper.kept c.args.service.now) (g.K.Keeper.kept l.service) (g.K.Keeper.kept c.attend.new.service) lt lt' l.invariant.rest
          (c.attend.ensures.attends h) (l.invariant.attends (c.attend.ensures.honest h));
    }
