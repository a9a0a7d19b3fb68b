use Rattle.registry_server.specs.Events.{Carries}
use Rattle.registry_server.specs.Showing.{connected}
use Rattle.registry_sockets.proofs.sockets.Sockets.part_with_ended.Given as goal

abbrev pub invariant-loop : goal.invariant-loop
invariant-loop l = Carries (connected l.fn.connections) (connected l.connections)
