use Rattle.std.proofs.Common.{cond, Some, refl, ap}
use Rattle.std.specs.Prelude.{codes}
use Rattle.registry_model.specs.declared.refusal.Refusal.TheVariants.{TokenRequired}
use Rattle.registry_model.specs.World.{repo_at}
use Rattle.registry_model.specs.declared.request.Resource.TheVariants.{Registry}
use Rattle.registry_model.specs.Login.{profile}
use Rattle.registry_model.specs.Decision.{refuses}
use Rattle.registry_model.specs.Judging.{served, base_decision}
use Rattle.registry_model.proofs.WorkedRequests.{unknown, apart}
use Rattle.registry_model.proofs.worked.the_base_is_there_for_known_tokens.Goals as goal

pub returns : goal.returns
returns c = record {
  known = λ w r s. ap (λ o. o.reply) (apart w r s base_decision);
  unknown = λ w q e. ap (λ b. (cond b (served (w.grants (codes "t9")) (repo_at w) (record q { settings = profile; resource = Registry; token = Some (codes "t9") })) (refuses TokenRequired)).reply) (unknown (w.grants (codes "t9")) e);
  without = λ w q. refl;
}
