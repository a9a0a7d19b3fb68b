use Rattle.std.proofs.Common.{◌-◌, ◌<◌, take, All}
use Rattle.registry_server.proofs.connection.find_silent.Given as goal

abbrev pub invariant-loop-i : goal.invariant-loop-i
invariant-loop-i l = All (λ c. l.time - c.life.since < l.limit) (take l.i l.connections)
