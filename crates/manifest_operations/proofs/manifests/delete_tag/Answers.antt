use Rattle.std.proofs.Common.{◌≡◌, ◌∙◌, refl, sym, ap, None, Some}
use Rattle.std.specs.Prelude.{Option}
use Rattle.oci_types.specs.Text.{Text}
use Rattle.registry_model.specs.declared.refusal.Refusal.TheVariants.{ManifestUnknown}
use Rattle.registry_model.specs.Answer.{Answer}
use Rattle.registry_model.specs.Doing.{course_of_answer}
use Rattle.registry_model.specs.Heads.{is_sent}
use Rattle.registry_model.specs.Keeping.{Kept, goes_on}
use Rattle.registry_model.specs.Lookups.{tag_at}
use Rattle.registry_model.specs.Lookups as lookups
use Rattle.operation_parts.proofs.ReadLemmas.{told_this}
use Rattle.operation_parts.proofs.EarlyLemmas.{refused_early, wrote, after_it}
use Rattle.manifest_operations.proofs.ManifestLemmas.{tag_unknown, tag_there, tag_taken}
use Rattle.manifest_operations.proofs.manifests.delete_tag.Goals as goal

pub returns : goal.returns
returns g c =
    refused_early (λ (o : Option Text). o) (λ o. o ≡ None) ManifestUnknown c.tag.result _ c.in-Err.reply c.args.name.now _ _ _ _ _ c.in-Err.ensures refl refl c.tag.ensures
    (λ honest o none e stays a is. tag_unknown _ _ c.args.name.now (c.requires.there (c.tag.ensures.honest honest)) c.requires.unspent a c.args.tag.now stays (sym none ∙ e) is)

pub delete_tag-requires : goal.delete_tag-requires
delete_tag-requires g c = record {
  there = λ honest unspent.
      let s = g.K.Keeper.kept c.args.keeper.now in
      let found = told_this (λ (o : Option Text). o) c.tag.result (Some c.in-Ok.field-0) (tag_at s.world c.args.name.now c.args.tag.now) s (g.K.Keeper.kept c.tag.new.self) c.in-Ok.ensures (c.tag.ensures.found honest) in
      tag_there s _ c.args.name.now c.args.tag.now c.in-Ok.field-0 found.1 found.0;
}

pub returns-in-Ok : goal.returns-in-Ok
returns-in-Ok g c =
    let s = g.K.Keeper.kept c.args.keeper.now in
    let mid = g.K.Keeper.kept c.tag.new.self in
    let name = c.args.name.now in
    let it = c.args.tag.now in
    after_it c.delete_tag.result c.bare.result c.after.result name _ s _ _ _ c.after.ensures
    (wrote (lookups.delete_tag mid.world name it) c.delete_tag.result c.bare.result name _ s mid _ _ _ _
    (λ between. (told_this (λ (o : Option Text). o) c.tag.result (Some c.in-Ok.field-0) (tag_at s.world name it) s mid c.in-Ok.ensures (c.tag.ensures.found between)).1)
    c.tag.ensures.honest c.requires.unspent c.delete_tag.ensures (ap course_of_answer c.bare.ensures) (ap (λ (a : Answer). is_sent a.body) c.bare.ensures)
    (λ between made.
    let found = told_this (λ (o : Option Text). o) c.tag.result (Some c.in-Ok.field-0) (tag_at s.world name it) s mid c.in-Ok.ensures (c.tag.ensures.found between) in
    tag_taken s _ name (c.requires.there (c.tag.ensures.honest between)) c.requires.unspent _ it c.in-Ok.field-0 found.0
    (made ∙ ap {A = Kept} {B = Kept} (λ x. goes_on x (lookups.delete_tag x.world name it)) found.1) c.bare.ensures))
