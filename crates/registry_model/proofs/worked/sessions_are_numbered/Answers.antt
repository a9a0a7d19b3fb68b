use Rattle.std.proofs.Common.{◌∙◌, [], ◌∷◌, Some, refl, ap}
use Rattle.std.specs.Prelude.{codes}
use Rattle.std.specs.Ordering.{nat_cmp}
use Rattle.std.specs.Cmp.{nat_cmp_total}
use Rattle.oci_types.specs.Text.{Text}
use Rattle.std.specs.Fmt.{digits}
use Rattle.std.specs.FinMap.{get-from_entries, len-empty}
use Rattle.registry_model.specs.World.{new_repo}
use Rattle.registry_model.specs.Judging.{changed}
use Rattle.registry_model.specs.Sessions.{show_session}
use Rattle.registry_model.specs.Operation as op
use Rattle.registry_model.specs.Worked.{app, in_session}
use Rattle.registry_model.proofs.WorkedRequests.{in_app, numbered, opens, opens_none, new_open, many_full, last_full}
use Rattle.registry_model.proofs.worked.sessions_are_numbered.Goals as goal

pub returns : goal.returns
unfolding digits
returns c = record {
  first = λ w s. ap (λ o. o.reply) (in_app w (new_repo 1000) s op.opens_session [] ∙ opens (new_repo 1000) app (new_open (new_repo 1000) (len-empty nat_cmp Text) refl));
  opened = λ w s. ap (λ o. changed w (Some app) o.change) (in_app w (new_repo 1000) s op.opens_session [] ∙ opens (new_repo 1000) app (new_open (new_repo 1000) (len-empty nat_cmp Text) refl));
  many = λ w r s e. ap (λ o. o.reply) (in_app w r s op.opens_session [] ∙ opens_none r app (many_full r e));
  last = λ w r s e. ap (λ o. o.reply) (in_app w r s op.opens_session [] ∙ opens_none r app (last_full r e));
  leading_zero = λ w r s. ap (λ o. o.reply) (in_app w r s (op.reads_session (codes "01")) []);
  zero = λ w r s. ap (λ o. o.reply) (in_app w r s (op.reads_session (codes "0")) []);
  unopened = λ w s. ap (λ o. o.reply) (
      in_app w (in_session []) s (op.reads_session (codes "2")) [] ∙ ap (λ o. show_session app (numbered 2 o)) (get-from_entries nat_cmp_total ((1, []) ∷ []) 2));
}
