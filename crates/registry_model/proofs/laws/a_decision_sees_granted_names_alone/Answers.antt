use Rattle.registry_model.proofs.JudgingLaws.{decision_same}
use Rattle.registry_model.proofs.laws.a_decision_sees_granted_names_alone.Goals as goal

pub returns : goal.returns
returns c = λ g repos others agree q. decision_same g repos others agree q
