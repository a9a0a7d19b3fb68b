use Rattle.registry_server.proofs.CallLemmas.{carries_then}
use Rattle.registry_sockets.proofs.sockets.Sockets.tell_of.Goals as goal

pub returns : goal.returns
returns c = carries_then _ _ _ c.tell_peer_of.ensures c.stir_waiting.ensures.leads
