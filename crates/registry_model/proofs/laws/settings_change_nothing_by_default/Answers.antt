use Rattle.registry_model.specs.Ask.{Ask}
use Rattle.registry_model.specs.Decision.{Decision, tells}
use Rattle.registry_model.specs.Login.{unnamed_answer}
use Rattle.registry_model.specs.Judging.{judged, decided_at}
use Rattle.registry_model.proofs.laws.settings_change_nothing_by_default.Goals as goal

pub returns : goal.returns
returns c = record {
  registry = λ w q r i. decided_at (r i) q (judged w q.token q);
  unnamed = λ q s i. tells (unnamed_answer (s i).login q.host);
}
