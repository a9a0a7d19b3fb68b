use Rattle.registry_server.proofs.CallLemmas.{carries_then}
use Rattle.registry_sockets.proofs.sockets.Sockets.part_with_others.Goals as goal

pub returns : goal.returns
returns c = carries_then _ _ _ (carries_then _ _ _ c.make_room.ensures c.part_with_ended.ensures) c.sweep.ensures
