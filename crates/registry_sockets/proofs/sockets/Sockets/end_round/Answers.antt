use Rattle.registry_server.proofs.CallLemmas.{carries_then}
use Rattle.registry_sockets.proofs.sockets.Sockets.end_round.Goals as goal

pub returns : goal.returns
returns c = record {
  leads = carries_then _ _ _ (carries_then _ _ _ c.tell_all.ensures c.part_with_others.ensures) c.part_with_silent.ensures.leads;
  none = c.part_with_silent.ensures.none;
}
