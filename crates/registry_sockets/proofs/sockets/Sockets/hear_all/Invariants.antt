use Rattle.registry_server.specs.Events.{Carries}
use Rattle.registry_server.specs.Showing.{connected}
use Rattle.registry_sockets.proofs.sockets.Sockets.hear_all.Given as goal

abbrev pub invariant-loop-at : goal.invariant-loop-at
invariant-loop-at l = Carries (connected l.fn.connections) (connected l.connections)
