use Rattle.registry_server.proofs.CallLemmas.{carries_then}
use Rattle.registry_server.proofs.LifeLemmas.{fewer}
use Rattle.registry_sockets.proofs.sockets.Sockets.part_with_silent.Goals as goal

pub loop-number-preserved : goal.loop-number-preserved
loop-number-preserved c = carries_then _ _ _ c.loop-number.invariant c.close.ensures.leads

pub loop-number-smaller : goal.loop-number-smaller
loop-number-smaller c =
    fewer _ c.in-Some.number c.close.result c.loop-number.connections c.close.new.self c.in-Some.ensures.silent c.close.ensures.closes
