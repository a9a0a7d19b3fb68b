use Rattle.registry_server.proofs.TurnLemmas.{turn_between}
use Rattle.registry_server.proofs.laws.none_takes_two_turns_before_another.Goals as goal

pub returns : goal.returns
returns c = turn_between
