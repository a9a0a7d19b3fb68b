use Rattle.registry_server.proofs.CallLemmas.{carries_then, carries_same}
use Rattle.registry_sockets.proofs.sockets.Sockets.tell_peer_of.Goals as goal

pub returns-in-Some : goal.returns-in-Some
returns-in-Some c = carries_then _ _ _ (carries_same _ _ c.excuse_answered.ensures) c.tell_of.ensures
