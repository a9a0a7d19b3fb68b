use Rattle.std.proofs.Common.{◌≡◌}
use Rattle.registry_server.specs.Events.{Leads}
use Rattle.order_sockets.specs.Calls.{all_called}
use Rattle.registry_server.specs.Showing.{connected}
use Rattle.registry_loop.proofs.crowd.Crowd.answer_all.Given as goal

abbrev pub invariant-loop : goal.invariant-loop
invariant-loop g l = record {
  leads : g.K.Keeper.is_honest l.service
      → g.K.Keeper.is_honest l.fn.service
      × Leads (connected l.fn.connections) (g.K.Keeper.kept l.fn.service) (connected l.connections) (g.K.Keeper.kept l.service);
  limits : l.self.limits ≡ l.fn.self.limits;
  callers : all_called l.self.callers.callers.items ≡ all_called l.fn.self.callers.callers.items;
}
