use Rattle.std.proofs.Common.{◌≡◌, ◌∙◌, length, None, Some, refl, sym, subst}
use Rattle.std.specs.Prelude.{Option}
use Rattle.oci_types.specs.Text.{Text}
use Rattle.registry_model.specs.declared.refusal.Refusal.TheVariants.{UploadUnknown, InvalidDigest}
use Rattle.registry_model.specs.Ask.{text_in}
use Rattle.registry_model.specs.Lookups.{session_size_at}
use Rattle.operation_parts.proofs.RepoOutcomes.{spends_after}
use Rattle.operation_parts.proofs.DigestLemmas.{is_verifiable}
use Rattle.blob_operations.specs.Uploads.{upload_at, given_digest}
use Rattle.blob_operations.specs.declared.uploads.Upload.{Upload}
use Rattle.blob_operations.proofs.UploadLemmas.{upload_is, chunk_fits, refusal_sent}
use Rattle.blob_operations.proofs.SessionCloseLemmas.{given_is, ends_unknown, ends_ungiven, ends_refused, ends_taken}
use Rattle.operation_parts.proofs.ReadLemmas.{text_told, told_this, told_later, kept_on, text_read}
use Rattle.operation_parts.proofs.EarlyLemmas.{refused_early}
use Rattle.blob_operations.proofs.session_close.close_session.Goals as goal

pub returns-in-Err : goal.returns-in-Err
returns-in-Err g c =
    refused_early (λ (o : Option Upload). o) (λ o. o ≡ None) UploadUnknown c.find_upload.result _ c.in-Err.reply c.args.name.now _ _ _ _ _ c.in-Err.ensures refl refl c.find_upload.ensures
    (λ honest o none e stays a is. ends_unknown (g.K.Keeper.kept c.args.keeper.now) _ c.args.name.now c.args.reference.now (text_in c.args.digest) (text_in c.args.range) c.args.body.now
    (c.requires.there (c.find_upload.ensures.honest honest)) (sym none ∙ e) a is c.requires.unspent stays)

pub returns-in-Err-found_or : goal.returns-in-Err-found_or
returns-in-Err-found_or g c =
    let s = g.K.Keeper.kept c.args.keeper.now in
    let mid = g.K.Keeper.kept c.find_upload.new.keeper in
    let u = c.in-Ok.upload in
    let given = given_digest (text_in c.args.digest) in
    refused_early (λ (o : Option Text). o) (λ o. o ≡ None) InvalidDigest c.given_digest.result given c.in-Err-found_or.reply c.args.name.now _ s mid _ _ c.in-Err-found_or.ensures refl refl
    (told_later (λ (o : Option Text). o) c.given_digest.result given s mid mid _ (g.K.Keeper.is_honest c.find_upload.new.keeper) _
    (λ between. (told_this (λ (o : Option Upload). o) c.find_upload.result (Some u) (upload_at s.world c.args.name.now c.args.reference.now) s mid c.in-Ok.ensures (c.find_upload.ensures.found between)).1)
    c.find_upload.ensures.honest c.requires.unspent
    (text_told c.given_digest.result given mid (g.K.Keeper.is_honest c.find_upload.new.keeper) c.given_digest.ensures (kept_on c.find_upload.result (Some u) s mid c.in-Ok.ensures c.find_upload.ensures.spends).1))
    (λ honest o none e stays a is.
    let asked = told_this (λ (o : Option Upload). o) c.find_upload.result (Some u) (upload_at s.world c.args.name.now c.args.reference.now) s mid c.in-Ok.ensures (c.find_upload.ensures.found honest) in
    ends_ungiven s mid c.args.name.now c.args.reference.now u asked.0 (text_in c.args.digest) (text_in c.args.range) c.args.body.now (sym none ∙ e) a is c.requires.unspent stays)

pub returns-in-Err-chunk_refusal : goal.returns-in-Err-chunk_refusal
returns-in-Err-chunk_refusal g c =
    let s = g.K.Keeper.kept c.args.keeper.now in
    let mid = g.K.Keeper.kept c.find_upload.new.keeper in
    record {
      comes = λ honest. (told_this (λ (o : Option Upload). o) c.find_upload.result (Some c.in-Ok.upload) (upload_at s.world c.args.name.now c.args.reference.now) s mid c.in-Ok.ensures (c.find_upload.ensures.found honest)).1;
      answers = tt;
      carries = tt;
      spends = kept_on c.find_upload.result (Some c.in-Ok.upload) s mid c.in-Ok.ensures c.find_upload.ensures.spends;
      honest = c.find_upload.ensures.honest;
    }

pub returns-in-Ok-Some : goal.returns-in-Ok-Some
returns-in-Ok-Some g c =
    let s = g.K.Keeper.kept c.args.keeper.now in
    let mid = g.K.Keeper.kept c.find_upload.new.keeper in
    let u = c.in-Ok.upload in
    let refusal = rw c.in-Ok-Some.field-0-is at c.in-Ok-Some.ensures.refusal in
    record {
      comes = λ honest.
          let asked = told_this (λ (o : Option Upload). o) c.find_upload.result (Some u) (upload_at s.world c.args.name.now c.args.reference.now) s mid c.in-Ok.ensures (c.find_upload.ensures.found honest) in
          let text = given_is (text_in c.args.digest) c.in-Ok-found_or.digest (text_read c.given_digest.result (Some c.in-Ok-found_or.digest) (given_digest (text_in c.args.digest)) c.in-Ok-found_or.ensures c.given_digest.ensures) in
          ends_refused s mid c.args.name.now c.args.reference.now u asked.0 (text_in c.args.digest) (text_in c.args.range) c.args.body.now text.0 text.1
          c.in-Ok-found_or.digest text.2 c.last_verdict-verdict.result c.last_verdict-verdict.ensures _ c.requires.unspent asked.1 refusal;
      answers = rw c.in-Ok-Some.field-0-is at c.in-Ok-Some.ensures.answers;
      carries = refusal_sent c.last_verdict-verdict.result c.args.name.now u (length c.args.body.now) _ refusal;
      spends = kept_on c.find_upload.result (Some u) s mid c.in-Ok.ensures c.find_upload.ensures.spends;
      honest = c.find_upload.ensures.honest;
    }

pub returns-in-Ok-None : goal.returns-in-Ok-None
returns-in-Ok-None g c =
    let s = g.K.Keeper.kept c.args.keeper.now in
    let mid = g.K.Keeper.kept c.find_upload.new.keeper in
    let u = c.in-Ok.upload in
    record {
      comes = λ honest.
          let asked = told_this (λ (o : Option Upload). o) c.find_upload.result (Some u) (upload_at s.world c.args.name.now c.args.reference.now) s mid c.in-Ok.ensures (c.find_upload.ensures.found (c.close_with.ensures.honest honest)) in
          let text = given_is (text_in c.args.digest) c.in-Ok-found_or.digest (text_read c.given_digest.result (Some c.in-Ok-found_or.digest) (given_digest (text_in c.args.digest)) c.in-Ok-found_or.ensures c.given_digest.ensures) in
          ends_taken s _ c.args.name.now c.args.reference.now u asked.0 (text_in c.args.digest) (text_in c.args.range) c.args.body.now text.0 text.1
          c.in-Ok-found_or.digest text.2 c.last_verdict-verdict.result c.last_verdict-verdict.ensures c.close_with.result mid asked.1 (rw c.in-Ok-None.field-0-is at c.in-Ok-None.ensures.refusal) (c.close_with.ensures.comes honest);
      answers = c.close_with.ensures.answers;
      carries = c.close_with.ensures.carries;
      spends = spends_after c.close_with.result s mid _ c.requires.unspent c.close_with.ensures.spends;
      honest = λ honest. c.find_upload.ensures.honest (c.close_with.ensures.honest honest);
    }

pub close_with-requires : goal.close_with-requires
close_with-requires g c =
    let s = g.K.Keeper.kept c.args.keeper.now in
    let mid = g.K.Keeper.kept c.find_upload.new.keeper in
    let u = c.in-Ok.upload in
    let text = given_is (text_in c.args.digest) c.in-Ok-found_or.digest (text_read c.given_digest.result (Some c.in-Ok-found_or.digest) (given_digest (text_in c.args.digest)) c.in-Ok-found_or.ensures c.given_digest.ensures) in
    record {
      unspent = (kept_on c.find_upload.result (Some u) s mid c.in-Ok.ensures c.find_upload.ensures.spends).1;
      «open» = λ honest.
          let asked = told_this (λ (o : Option Upload). o) c.find_upload.result (Some u) (upload_at s.world c.args.name.now c.args.reference.now) s mid c.in-Ok.ensures (c.find_upload.ensures.found honest) in
          subst (λ x. session_size_at x.world c.args.name.now u.number ≡ Some u.size) (sym asked.1) (upload_is s.world c.args.name.now c.args.reference.now u asked.0).1;
      verified = is_verifiable c.in-Ok-found_or.digest text.0 text.2;
      fits = chunk_fits c.last_verdict-verdict.result c.args.name.now u (length c.args.body.now) (rw c.in-Ok-None.field-0-is at c.in-Ok-None.ensures.refusal);
    }
