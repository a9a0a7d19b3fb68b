use Rattle.std.proofs.Common.{◌≡◌}
use Rattle.registry_server.specs.Showing.{connected}
use Rattle.order_sockets.specs.Calls.{all_called}
use Rattle.registry_loop.proofs.RoundLemmas.{Some}
use Rattle.registry_loop.proofs.crowd.Crowd.serve_rounds.Given as goal

abbrev pub invariant-loop : goal.invariant-loop
invariant-loop g l = record {
  rounds : g.K.Keeper.is_honest l.service
      → g.K.Keeper.is_honest l.fn.service
      × Some (connected l.fn.connections) (all_called l.fn.self.callers.callers.items) (g.K.Keeper.kept l.fn.service)
      (connected l.connections) (all_called l.self.callers.callers.items) (g.K.Keeper.kept l.service);
  limits : l.self.limits ≡ l.fn.self.limits;
}
