use Rattle.std.proofs.Common.{◌≡◌, ◌∙◌, refl, sym, ap, None, Some}
use Rattle.std.specs.Prelude.{Option, codes}
use Rattle.oci_types.specs.Text.{Text}
use Rattle.registry_model.specs.declared.refusal.Refusal.TheVariants.{BlobUnknown}
use Rattle.registry_model.specs.declared.reply.Status.TheVariants.{OK}
use Rattle.registry_model.specs.Answer.{Answer, bare_answer, sent}
use Rattle.registry_model.specs.Doing.{course_of_answer}
use Rattle.registry_model.specs.Heads.{is_sent}
use Rattle.registry_model.specs.Keeping.{shared_in}
use Rattle.registry_model.specs.Lookups.{blob_at}
use Rattle.operation_parts.specs.Digests.{digest_in}
use Rattle.blob_operations.proofs.BlobLemmas.{reads, reads_nothing}
use Rattle.operation_parts.proofs.ReadLemmas.{text_told, told_this, kept_on}
use Rattle.operation_parts.proofs.DigestLemmas.{digest_read, no_digest}
use Rattle.operation_parts.proofs.EarlyLemmas.{refused_early}
use Rattle.blob_operations.proofs.blobs.read_blob.Goals as goal

pub returns-in-Err : goal.returns-in-Err
returns-in-Err g c =
    refused_early (λ (o : Option Text). o) (λ o. o ≡ None) BlobUnknown c.read_digest.result (digest_in c.args.text.now) c.in-Err.reply c.args.name.now _ _ _ _ _
    c.in-Err.ensures refl refl (text_told c.read_digest.result (digest_in c.args.text.now) (g.K.Keeper.kept c.args.keeper.now) (g.K.Keeper.is_honest c.args.keeper.now) c.read_digest.ensures c.requires.unspent)
    (λ honest o none e stays a is. reads_nothing _ _ c.args.name.now c.requires.unspent (c.requires.there honest) c.args.text.now a stays (no_digest c.args.text.now o none e) is)

pub returns-in-Err-found_or : goal.returns-in-Err-found_or
returns-in-Err-found_or g c =
    let s = g.K.Keeper.kept c.args.keeper.now in
    let read = digest_read c.read_digest.result c.in-Ok.digest c.args.text.now c.in-Ok.ensures c.read_digest.ensures in
    refused_early shared_in (λ o. o ≡ None) BlobUnknown c.blob.result _ c.in-Err-found_or.reply c.args.name.now _ _ _ _ _ c.in-Err-found_or.ensures refl refl c.blob.ensures
    (λ honest o none e stays a is. reads s _ c.args.name.now c.requires.unspent (c.requires.there (c.blob.ensures.honest honest)) c.args.text.now a stays read.1 None
    (sym (ap shared_in none) ∙ e ∙ ap (blob_at s.world c.args.name.now) read.0) is)

pub returns-in-Ok-found_or : goal.returns-in-Ok-found_or
returns-in-Ok-found_or g c = record {
  comes = λ honest.
      let s = g.K.Keeper.kept c.args.keeper.now in
      let read = digest_read c.read_digest.result c.in-Ok.digest c.args.text.now c.in-Ok.ensures c.read_digest.ensures in
      let found = told_this shared_in c.blob.result (Some c.in-Ok-found_or.bytes) (blob_at s.world c.args.name.now c.in-Ok.digest) s (g.K.Keeper.kept c.blob.new.self) c.in-Ok-found_or.ensures (c.blob.ensures.found honest) in
      reads s _ c.args.name.now c.requires.unspent (c.requires.there (c.blob.ensures.honest honest)) c.args.text.now _ found.1 read.1 (Some c.in-Ok-found_or.bytes.value.items)
      (found.0 ∙ ap (blob_at s.world c.args.name.now) read.0)
      (c.found.ensures ∙ ap {B = Answer} (λ d. record (bare_answer OK) { digest = Some d; content_type = Some (codes "application/octet-stream"); body = sent c.in-Ok-found_or.bytes.value.items }) read.0);
  answers = ap course_of_answer c.found.ensures;
  carries = ap (λ (a : Answer). is_sent a.body) c.found.ensures;
  spends = kept_on c.blob.result (Some c.in-Ok-found_or.bytes) _ _ c.in-Ok-found_or.ensures c.blob.ensures.spends;
  honest = c.blob.ensures.honest;
}
