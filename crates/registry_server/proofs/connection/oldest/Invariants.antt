use Rattle.std.proofs.Common.{◌≤◌, take, All}
use Rattle.registry_server.proofs.connection.oldest.Given as goal

abbrev pub invariant-loop-connection : goal.invariant-loop-connection
invariant-loop-connection l = (l.oldest ≤ l.time) × All (λ c. l.oldest ≤ c.life.since) (take l.connection-index l.connections)
