use Rattle.registry_server.proofs.KeptLemmas.{Rest}
use Rattle.registry_server.specs.Slots.{slots_of}
use Rattle.registry_server.proofs.connection.find_stirred.Given as goal

abbrev pub invariant-loop-i : goal.invariant-loop-i
invariant-loop-i l = Rest l.i (slots_of l.connections)
