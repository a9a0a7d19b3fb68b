use Rattle.registry_server.proofs.CallLemmas.{carries_then, carries_same}
use Rattle.registry_sockets.proofs.peer.Peer.hear.Goals as goal

pub returns : goal.returns
returns c = carries_then _ _ _ c.hear_if.ensures (carries_same _ _ c.drain_if.ensures)
