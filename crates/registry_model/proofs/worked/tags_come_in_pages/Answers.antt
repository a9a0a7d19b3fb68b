use Rattle.std.proofs.Common.{◌∙◌, [], Some, None, ap}
use Rattle.std.specs.Prelude.{codes}
use Rattle.std.specs.Fmt.{digits}
use Rattle.registry_model.specs.Decision.{tells}
use Rattle.registry_model.specs.TagPage.{tags_reply}
use Rattle.registry_model.specs.Operation as op
use Rattle.registry_model.specs.Worked.{app, four_tags}
use Rattle.registry_model.proofs.WorkedRequests.{in_app, paged}
use Rattle.registry_model.proofs.worked.tags_come_in_pages.Goals as goal

pub returns : goal.returns
unfolding digits
returns c = record {
  all = λ w s. ap (λ o. o.reply) (in_app w four_tags s (op.lists_tags None None) [] ∙ ap (λ p. tells (tags_reply app None p)) (paged [] None));
  first = λ w s. ap (λ o. o.reply) (in_app w four_tags s (op.lists_tags (Some (codes "2")) None) [] ∙ ap (λ p. tells (tags_reply app (Some 2) p)) (paged [] (Some 2)));
  leading_zero = λ w s. ap (λ o. o.reply) (in_app w four_tags s (op.lists_tags (Some (codes "02")) None) [] ∙ ap (λ p. tells (tags_reply app (Some 2) p)) (paged [] (Some 2)));
  second = λ w s. ap (λ o. o.reply) (in_app w four_tags s (op.lists_tags (Some (codes "2")) (Some (codes "a"))) [] ∙ ap (λ p. tells (tags_reply app (Some 2) p)) (paged (codes "a") (Some 2)));
  behind_no_tag = λ w s. ap (λ o. o.reply) (in_app w four_tags s (op.lists_tags (Some (codes "2")) (Some (codes "a0"))) [] ∙ ap (λ p. tells (tags_reply app (Some 2) p)) (paged (codes "a0") (Some 2)));
  empty_page = λ w s. ap (λ o. o.reply) (in_app w four_tags s (op.lists_tags (Some (codes "0")) None) [] ∙ ap (λ p. tells (tags_reply app (Some 0) p)) (paged [] (Some 0)));
  whole = λ w s. ap (λ o. o.reply) (in_app w four_tags s (op.lists_tags (Some (codes "4")) None) [] ∙ ap (λ p. tells (tags_reply app (Some 4) p)) (paged [] (Some 4)));
  no_number = λ w r s. ap (λ o. o.reply) (in_app w r s (op.lists_tags (Some (codes "x")) None) []);
}
