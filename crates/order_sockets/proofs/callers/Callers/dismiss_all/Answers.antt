use Rattle.std.proofs.Common.{◌∙◌}
use Rattle.order_sockets.specs.Calls.{all_called}
use Rattle.order_sockets.proofs.CallingLemmas.{stay_then}
use Rattle.order_sockets.proofs.callers.Callers.dismiss_all.Goals as goal

pub returns : goal.returns
returns c = record {
  stay = stay_then (all_called c.args.self.now.callers.items) (all_called c.give_room.new.self.callers.items) (all_called c.dismiss_ended.new.self.callers.items) c.give_room.ensures.stay c.dismiss_ended.ensures.stay;
  stopping = c.give_room.ensures.stopping ∙ c.dismiss_ended.ensures.stopping;
}
