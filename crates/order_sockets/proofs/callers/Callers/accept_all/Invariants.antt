use Rattle.std.proofs.Common.{◌≡◌}
use Rattle.order_sockets.specs.Calling.{Come}
use Rattle.order_sockets.specs.Calls.{all_called}
use Rattle.order_sockets.proofs.callers.Callers.accept_all.Given as goal

abbrev pub invariant-loop : goal.invariant-loop
invariant-loop l = record {
  come : Come (all_called l.fn.self.callers.items) (all_called l.self.callers.items);
  stopping : l.self.stopping ≡ l.fn.self.stopping;
}
