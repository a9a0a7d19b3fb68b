use Rattle.registry_model.specs.World.{repo_at}
use Rattle.registry_model.specs.Pruning.{pruned}
use Rattle.registry_model.proofs.AsideLaws.{updated_grants}
use Rattle.registry_model.proofs.PruningLaws.{keeps, takes, keeps_needs, prunes_itself, prunes_no_other}
use Rattle.registry_model.proofs.laws.pruning_keeps_what_is_named.Goals as goal

pub returns-clause-kept : goal.returns-clause-kept
returns-clause-kept c = keeps

pub returns-clause-gone : goal.returns-clause-gone
returns-clause-gone c = takes

pub returns-clause-needs : goal.returns-clause-needs
returns-clause-needs c = keeps_needs

pub returns-clause-here : goal.returns-clause-here
returns-clause-here c = prunes_itself

pub returns-clause-elsewhere : goal.returns-clause-elsewhere
returns-clause-elsewhere c = prunes_no_other

pub returns-clause-grants : goal.returns-clause-grants
returns-clause-grants c = λ w name. updated_grants w name pruned (repo_at w name)
