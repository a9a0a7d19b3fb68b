use Rattle.std.proofs.Common.{◌≡◌, ◌∙◌, ℕ, refl, sym, ap, None, Some}
use Rattle.std.specs.Prelude.{Option}
use Rattle.oci_types.specs.declared.kind.Kind.{Kind}
use Rattle.registry_model.specs.declared.refusal.Refusal.TheVariants.{ManifestUnknown}
use Rattle.registry_model.specs.Answer.{Answer}
use Rattle.registry_model.specs.Doing.{course_of_answer}
use Rattle.registry_model.specs.Heads.{is_sent}
use Rattle.registry_model.specs.Keeping.{Kept, goes_on}
use Rattle.registry_model.specs.Lookups.{manifest_size_at}
use Rattle.registry_model.specs.Lookups as lookups
use Rattle.operation_parts.proofs.ReadLemmas.{told_this}
use Rattle.operation_parts.proofs.EarlyLemmas.{refused_early, wrote, after_it}
use Rattle.manifest_operations.proofs.ManifestLemmas.{digest_unknown, digest_there, digest_taken}
use Rattle.manifest_operations.proofs.manifests.delete_digest.Goals as goal

pub returns-in-Err : goal.returns-in-Err
returns-in-Err g c =
    refused_early (λ (o : Option (Kind × ℕ)). o) (λ o. o ≡ None) ManifestUnknown c.manifest_size.result _ c.in-Err.reply c.args.name.now _ _ _ _ _ c.in-Err.ensures refl refl c.manifest_size.ensures
    (λ honest o none e stays a is. digest_unknown _ _ c.args.name.now (c.requires.there (c.manifest_size.ensures.honest honest)) c.requires.unspent a c.args.digest.now stays (sym none ∙ e) is)

pub delete_manifest-requires : goal.delete_manifest-requires
delete_manifest-requires g c = record {
  there = λ honest unspent.
      let s = g.K.Keeper.kept c.args.keeper.now in
      let found = told_this (λ (o : Option (Kind × ℕ)). o) c.manifest_size.result (Some c.in-Ok.field-0) (manifest_size_at s.world c.args.name.now c.args.digest.now) s (g.K.Keeper.kept c.manifest_size.new.self) c.in-Ok.ensures (c.manifest_size.ensures.found honest) in
      digest_there s _ c.args.name.now c.args.digest.now c.in-Ok.field-0 found.1 found.0;
}

pub returns-in-Ok : goal.returns-in-Ok
returns-in-Ok g c =
    let s = g.K.Keeper.kept c.args.keeper.now in
    let mid = g.K.Keeper.kept c.manifest_size.new.self in
    let name = c.args.name.now in
    let it = c.args.digest.now in
    after_it c.delete_manifest.result c.bare.result c.after.result name _ s _ _ _ c.after.ensures
    (wrote (lookups.delete_manifest mid.world name it) c.delete_manifest.result c.bare.result name _ s mid _ _ _ _
    (λ between. (told_this (λ (o : Option (Kind × ℕ)). o) c.manifest_size.result (Some c.in-Ok.field-0) (manifest_size_at s.world name it) s mid c.in-Ok.ensures (c.manifest_size.ensures.found between)).1)
    c.manifest_size.ensures.honest c.requires.unspent c.delete_manifest.ensures (ap course_of_answer c.bare.ensures) (ap (λ (a : Answer). is_sent a.body) c.bare.ensures)
    (λ between made.
    let found = told_this (λ (o : Option (Kind × ℕ)). o) c.manifest_size.result (Some c.in-Ok.field-0) (manifest_size_at s.world name it) s mid c.in-Ok.ensures (c.manifest_size.ensures.found between) in
    digest_taken s _ name (c.requires.there (c.manifest_size.ensures.honest between)) c.requires.unspent _ it c.in-Ok.field-0 found.0
    (made ∙ ap {A = Kept} {B = Kept} (λ x. goes_on x (lookups.delete_manifest x.world name it)) found.1) c.bare.ensures))
