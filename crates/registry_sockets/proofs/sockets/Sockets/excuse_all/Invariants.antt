use Rattle.std.proofs.Common.{◌≡◌}
use Rattle.registry_server.specs.Showing.{connected}
use Rattle.registry_sockets.proofs.sockets.Sockets.excuse_all.Given as goal

abbrev pub invariant-loop-peer : goal.invariant-loop-peer
invariant-loop-peer l = connected l.connections ≡ connected l.fn.connections
