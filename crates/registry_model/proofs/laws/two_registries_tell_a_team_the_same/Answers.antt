use Rattle.registry_model.proofs.RunLaws.{same_told, same_front, same_asked}
use Rattle.registry_model.proofs.laws.two_registries_tell_a_team_the_same.Goals as goal

pub returns-clause-whole : goal.returns-clause-whole
returns-clause-whole c = same_told

pub returns-clause-front : goal.returns-clause-front
returns-clause-front c = same_front

pub returns-clause-all : goal.returns-clause-all
returns-clause-all c = same_asked
