use Rattle.std.proofs.Common.{◌≡◌}
use Rattle.order_sockets.specs.Calling.{Stay}
use Rattle.order_sockets.specs.Calls.{all_called}
use Rattle.order_sockets.proofs.callers.Callers.dismiss_ended.Given as goal

abbrev pub invariant-loop : goal.invariant-loop
invariant-loop l = record {
  stay : Stay (all_called l.self.callers.items) (all_called l.fn.self.callers.items);
  stopping : l.self.stopping ≡ l.fn.self.stopping;
}
