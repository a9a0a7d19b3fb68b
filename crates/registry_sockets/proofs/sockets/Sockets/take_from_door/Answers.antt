use Rattle.registry_server.proofs.CallLemmas.{carries_then}
use Rattle.registry_sockets.proofs.sockets.Sockets.take_from_door.Goals as goal

pub returns-in-Some : goal.returns-in-Some
returns-in-Some c = carries_then _ _ _ c.has_place.ensures c.welcome.ensures
