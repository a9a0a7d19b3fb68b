use Rattle.registry_server.proofs.CallLemmas.{carries_then}
use Rattle.registry_sockets.proofs.sockets.Sockets.give_place_of.Goals as goal

pub returns-then-rested : goal.returns-then-rested
returns-then-rested c = carries_then _ _ _ c.hear_last.ensures c.close_resting-rested.ensures.leads

pub returns-else-rested : goal.returns-else-rested
returns-else-rested c = carries_then _ _ _ c.hear_last.ensures c.close_resting-rested.ensures.leads

pub returns-in-Some : goal.returns-in-Some
returns-in-Some c = carries_then _ _ _ c.hear_last.ensures c.dismiss.ensures
