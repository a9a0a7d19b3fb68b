use Rattle.registry_server.proofs.CallLemmas.{carries_then}
use Rattle.registry_sockets.proofs.peer.Peer.write_out.Goals as goal

pub loop-preserved : goal.loop-preserved
loop-preserved c = carries_then _ _ _ c.loop.invariant c.sent.ensures.leads
