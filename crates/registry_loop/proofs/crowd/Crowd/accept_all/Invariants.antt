use Rattle.std.proofs.Common.{◌≡◌}
use Rattle.registry_server.specs.Events.{Carries}
use Rattle.order_sockets.specs.Calls.{all_called}
use Rattle.registry_server.specs.Showing.{connected}
use Rattle.registry_loop.proofs.crowd.Crowd.accept_all.Given as goal

abbrev pub invariant-loop : goal.invariant-loop
invariant-loop g l = record {
  leads : Carries (connected l.fn.connections) (connected l.connections);
  limits : l.self.limits ≡ l.fn.self.limits;
  callers : all_called l.self.callers.callers.items ≡ all_called l.fn.self.callers.callers.items;
}
