use Rattle.std.proofs.Common.{cond, nat_le, [], None, ap}
use Rattle.registry_model.specs.declared.refusal.Refusal.TheVariants.{TokenRequired, NoEndpoint, InvalidName, AccessDenied}
use Rattle.registry_model.specs.World.{repo_at}
use Rattle.registry_model.specs.Decision.{refuses, in_repo}
use Rattle.registry_model.specs.Judging.{not_allowed, operate}
use Rattle.registry_model.specs.Form as form
use Rattle.registry_model.specs.declared.level.Level.TheVariants.{Pull, Push}
use Rattle.registry_model.specs.Operation as op
use Rattle.registry_model.specs.Worked.{app, t1, abc_digest}
use Rattle.registry_model.proofs.WorkedRequests.{some_len, known, apart}
use Rattle.registry_model.proofs.worked.refusals_come_in_order.Goals as goal

pub returns : goal.returns
returns c = record {
  hidden = λ w r name s good none i. (cond (known w r s i)
      (cond (good i) (cond (nat_le 1 (op.rank_of (none i))) (in_repo (repo_at w name) (λ x. operate (w.grants t1) (repo_at w) x name (op.lists_tags None None) [])) (refuses AccessDenied)) (refuses InvalidName))
      (refuses TokenRequired)).reply;
  pull_pushes_nothing = λ w e i. (cond (some_len (w.grants t1) app Pull e i)
      (cond (nat_le 2 (op.rank_of (e i))) (in_repo (repo_at w app) (λ x. operate (w.grants t1) (repo_at w) x app op.opens_session [])) (refuses AccessDenied))
      (refuses TokenRequired)).reply;
  push_deletes_nothing = λ w e i. (cond (some_len (w.grants t1) app Push e i)
      (cond (nat_le 3 (op.rank_of (e i))) (in_repo (repo_at w app) (λ x. operate (w.grants t1) (repo_at w) x app (op.deletes_blob abc_digest) [])) (refuses AccessDenied))
      (refuses TokenRequired)).reply;
  no_name = λ w r s. ap (λ o. o.reply) (apart w r s (refuses InvalidName));
  no_endpoint = λ w r s. ap (λ o. o.reply) (apart w r s (refuses NoEndpoint));
  not_of_tags = λ w r s. ap (λ o. o.reply) (apart w r s (not_allowed (form.tags app)));
  not_of_base = λ w r s. ap (λ o. o.reply) (apart w r s (not_allowed form.base));
}
