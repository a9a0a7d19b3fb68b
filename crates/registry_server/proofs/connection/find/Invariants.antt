use Rattle.std.proofs.Common.{◌≡◌, drop, None}
use Rattle.registry_server.specs.Open.{conversation_of}
use Rattle.registry_server.specs.Slots.{slots_of}
use Rattle.registry_server.proofs.connection.find.Given as goal

abbrev pub invariant-loop-i : goal.invariant-loop-i
invariant-loop-i l = conversation_of l.number (slots_of (drop l.i l.connections)) ≡ None
