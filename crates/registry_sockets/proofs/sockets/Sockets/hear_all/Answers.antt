use Rattle.registry_server.proofs.CallLemmas.{carries_then}
use Rattle.registry_sockets.proofs.sockets.Sockets.hear_all.Goals as goal

pub loop-at-preserved : goal.loop-at-preserved
loop-at-preserved c = carries_then _ _ _ c.loop-at.invariant c.hear_at.ensures
