use Rattle.std.proofs.Common.{length}
use Rattle.registry_server.specs.Events.{Carries}
use Rattle.registry_server.specs.Showing.{connected}
use Rattle.registry_sockets.proofs.sockets.Sockets.part_with_silent.Given as goal

abbrev pub invariant-loop-number : goal.invariant-loop-number
invariant-loop-number l = Carries (connected l.fn.connections) (connected l.connections)

abbrev pub decreases-loop-number : goal.decreases-loop-number
decreases-loop-number l = length l.connections.connections.items
