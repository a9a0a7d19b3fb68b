use Rattle.registry_model.proofs.RunLaws.{run_says}
use Rattle.registry_model.proofs.laws.a_run_is_private.Goals as goal

pub returns : goal.returns
returns c = λ s steps outcomes s' r. run_says s steps outcomes s' r
