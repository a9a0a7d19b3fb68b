use Rattle.std.proofs.Common.{refl, ◌∙◌}
use Rattle.order_sockets.proofs.CallingLemmas.{all_stay, stay_then}
use Rattle.order_sockets.specs.Calls.{all_called}
use Rattle.order_sockets.proofs.callers.Callers.dismiss_ended.Goals as goal

pub loop-init : goal.loop-init
loop-init c = record { stay = all_stay (all_called c.args.self.now.callers.items); stopping = refl }

pub loop-preserved : goal.loop-preserved
loop-preserved c = record {
  stay = stay_then (all_called c.args.self.now.callers.items) (all_called c.dismiss_if-at.new.self.callers.items) (all_called c.loop.self.callers.items) c.dismiss_if-at.ensures.stay c.loop.invariant.stay;
  stopping = c.dismiss_if-at.ensures.stopping ∙ c.loop.invariant.stopping;
}
