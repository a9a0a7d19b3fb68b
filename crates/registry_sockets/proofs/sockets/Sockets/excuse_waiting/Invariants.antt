use Rattle.std.proofs.Common.{◌≡◌}
use Rattle.registry_server.specs.Showing.{connected}
use Rattle.registry_sockets.proofs.sockets.Sockets.excuse_waiting.Given as goal

abbrev pub invariant-loop-number : goal.invariant-loop-number
invariant-loop-number l = connected l.connections ≡ connected l.fn.connections
