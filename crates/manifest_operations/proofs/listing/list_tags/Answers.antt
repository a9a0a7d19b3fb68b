use Rattle.std.proofs.Common.{◌∙◌, ap, refl, List}
use Rattle.oci_types.specs.Text.{Text}
use Rattle.registry_model.specs.Answer.{Answer}
use Rattle.registry_model.specs.Ask.{text_in}
use Rattle.registry_model.specs.Doing.{course_of_answer}
use Rattle.registry_model.specs.Heads.{is_sent}
use Rattle.registry_model.specs.TagPage.{tags_reply}
use Rattle.operation_parts.proofs.FailedCalls.{read_failed}
use Rattle.manifest_operations.proofs.SayingLemmas.{replied}
use Rattle.manifest_operations.proofs.ListingLemmas.{pages, pages_nothing}
use Rattle.manifest_operations.proofs.listing.list_tags.Goals as goal

pub returns-in_default : goal.returns-in_default
returns-in_default g c = record {
  comes = λ honest. pages_nothing _ c.args.name.now (text_in c.args.n) (text_in c.args.last) (c.requires.there honest) c.requires.unspent
      c.page_size.result c.in_default.not-Some c.page_size.ensures _ c.refusal.ensures;
  answers = ap course_of_answer c.refusal.ensures;
  carries = ap (λ (a : Answer). is_sent a.body) c.refusal.ensures;
  spends = (c.requires.unspent, c.requires.unspent);
  honest = λ honest. honest;
}

pub returns-in_err-tags : goal.returns-in_err-tags
returns-in_err-tags g c = read_failed _ c.from_residual.result c.in_err-tags.field-0.0 _ _ _ _ _ _ c.from_residual.ensures c.in_err-tags.ensures

pub returns : goal.returns
returns g c =
    let told = c.in_ok-tags.ensures in
    replied c.tags_reply.result (tags_reply c.args.name.now c.in-Some.n (record { tags = c.deref.result.now; more = c.in_ok-tags.more })) c.args.name.now _ (g.K.Keeper.kept c.args.keeper.now) _ _ _
    c.tags_reply.ensures refl refl (λ honest. (told.found honest).1) c.requires.unspent told.spends.1 told.honest
    (λ honest a is.
    let found = told.found honest in
    pages _ _ c.args.name.now (text_in c.args.n) (text_in c.args.last) (c.requires.there (told.honest honest)) c.requires.unspent found.1
    c.in-Some.n c.in-Some.ensures c.text_or_empty.result.now c.text_or_empty.ensures (record { tags = c.in_ok-tags.tags.items; more = c.in_ok-tags.more }) found.0 a
    (is ∙ ap {B = Answer} (λ (tags : List Text). tags_reply c.args.name.now c.in-Some.n (record { tags = tags; more = c.in_ok-tags.more })) c.deref.ensures.value))
