use Rattle.registry_model.proofs.ResourceLaws.{told_tokens, told_health, after_elsewhere}
use Rattle.registry_model.proofs.laws.what_is_beside_the_registry_sees_none_of_it.Goals as goal

pub returns : goal.returns
returns c = record {
  told = told_tokens;
  well = told_health;
  same = after_elsewhere;
}
