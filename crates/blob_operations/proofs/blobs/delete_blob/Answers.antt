use Rattle.std.proofs.Common.{◌≡◌, ◌∙◌, ℕ, false, refl, sym, ap, None, Some}
use Rattle.std.specs.Prelude.{Option, is_some}
use Rattle.oci_types.specs.Text.{Text}
use Rattle.registry_model.specs.declared.refusal.Refusal.TheVariants.{BlobUnknown}
use Rattle.registry_model.specs.Answer.{Answer}
use Rattle.registry_model.specs.Doing.{course_of_answer}
use Rattle.registry_model.specs.Heads.{is_sent}
use Rattle.registry_model.specs.Keeping.{Kept, goes_on}
use Rattle.registry_model.specs.Lookups.{blob_size_at}
use Rattle.registry_model.specs.Lookups as lookups
use Rattle.operation_parts.specs.Digests.{digest_in}
use Rattle.blob_operations.proofs.BlobLemmas.{deletes_invalid, deletes_absent, deletes, sized_there}
use Rattle.operation_parts.proofs.ReadLemmas.{text_told, told_this}
use Rattle.operation_parts.proofs.DigestLemmas.{digest_read, no_digest}
use Rattle.operation_parts.proofs.EarlyLemmas.{refused_early, wrote, after_it}
use Rattle.blob_operations.proofs.blobs.delete_blob.Goals as goal

pub returns-in-Err : goal.returns-in-Err
returns-in-Err g c =
    refused_early (λ (o : Option Text). o) (λ o. o ≡ None) BlobUnknown c.read_digest.result (digest_in c.args.text.now) c.in-Err.reply c.args.name.now _ _ _ _ _
    c.in-Err.ensures refl refl (text_told c.read_digest.result (digest_in c.args.text.now) (g.K.Keeper.kept c.args.keeper.now) (g.K.Keeper.is_honest c.args.keeper.now) c.read_digest.ensures c.requires.unspent)
    (λ honest o none e stays a is. deletes_invalid _ _ c.args.name.now c.requires.unspent (c.requires.there honest) c.args.text.now a stays (no_digest c.args.text.now o none e) is)

pub returns : goal.returns
returns g c =
    let s = g.K.Keeper.kept c.args.keeper.now in
    let read = digest_read c.read_digest.result c.in-Ok.digest c.args.text.now c.in-Ok.ensures c.read_digest.ensures in
    refused_early (λ (o : Option ℕ). o) (λ o. o ≡ None) BlobUnknown c.blob_size-size.result _ c.in-Err-found_or.reply c.args.name.now _ _ _ _ _ c.in-Err-found_or.ensures refl refl c.blob_size-size.ensures
    (λ honest o none e stays a is. deletes_absent s _ c.args.name.now c.requires.unspent (c.requires.there (c.blob_size-size.ensures.honest honest)) c.args.text.now a stays read.1
    (sym none ∙ e ∙ ap (blob_size_at s.world c.args.name.now) read.0) is)

pub delete_blob-requires : goal.delete_blob-requires
delete_blob-requires g c = record {
  there = λ honest unspent.
      let s = g.K.Keeper.kept c.args.keeper.now in
      let found = told_this (λ (o : Option ℕ). o) c.blob_size-size.result (Some c.in-Ok-found_or.field-0) (blob_size_at s.world c.args.name.now c.in-Ok.digest) s (g.K.Keeper.kept c.blob_size-size.new.self) c.in-Ok-found_or.ensures (c.blob_size-size.ensures.found honest) in
      sized_there s _ c.args.name.now c.in-Ok.digest c.in-Ok-found_or.field-0 found.1 found.0;
}

pub returns-in-Ok-found_or : goal.returns-in-Ok-found_or
returns-in-Ok-found_or g c =
    let s = g.K.Keeper.kept c.args.keeper.now in
    let mid = g.K.Keeper.kept c.blob_size-size.new.self in
    let name = c.args.name.now in
    let d = c.in-Ok.digest in
    let read = digest_read c.read_digest.result c.in-Ok.digest c.args.text.now c.in-Ok.ensures c.read_digest.ensures in
    after_it c.delete_blob.result c.bare.result c.after.result name _ s _ _ _ c.after.ensures
    (wrote (lookups.delete_blob mid.world name d) c.delete_blob.result c.bare.result name _ s mid _ _ _ _
    (λ between. (told_this (λ (o : Option ℕ). o) c.blob_size-size.result (Some c.in-Ok-found_or.field-0) (blob_size_at s.world name d) s mid c.in-Ok-found_or.ensures (c.blob_size-size.ensures.found between)).1)
    c.blob_size-size.ensures.honest c.requires.unspent c.delete_blob.ensures (ap course_of_answer c.bare.ensures) (ap (λ (a : Answer). is_sent a.body) c.bare.ensures)
    (λ between made.
    let found = told_this (λ (o : Option ℕ). o) c.blob_size-size.result (Some c.in-Ok-found_or.field-0) (blob_size_at s.world name d) s mid c.in-Ok-found_or.ensures (c.blob_size-size.ensures.found between) in
    deletes s _ name c.requires.unspent (c.requires.there (c.blob_size-size.ensures.honest between)) c.args.text.now _ read.1
    (ap is_some (sym (found.0 ∙ ap (blob_size_at s.world name) read.0)))
    (made ∙ ap {A = Kept} {B = Kept} (λ x. goes_on x (lookups.delete_blob x.world name d)) found.1 ∙ ap {B = Kept} (λ (t : Text). goes_on s (lookups.delete_blob s.world name t)) read.0)
    c.bare.ensures))
