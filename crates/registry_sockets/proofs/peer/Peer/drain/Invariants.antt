use Rattle.std.proofs.Common.{◌≡◌}
use Rattle.registry_server.specs.Showing.{connected}
use Rattle.registry_sockets.proofs.peer.Peer.drain.Given as goal

abbrev pub invariant-loop : goal.invariant-loop
invariant-loop l = connected l.connections ≡ connected l.fn.connections
