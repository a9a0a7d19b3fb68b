use Rattle.std.proofs.Common.{◌≡◌, ◌∙◌, length, None, Some, refl, sym, subst}
use Rattle.std.specs.Prelude.{Option}
use Rattle.registry_model.specs.declared.refusal.Refusal.TheVariants.{UploadUnknown}
use Rattle.registry_model.specs.Ask.{text_in}
use Rattle.registry_model.specs.Lookups.{session_size_at}
use Rattle.registry_model.specs.Sessions as sessions
use Rattle.blob_operations.specs.Uploads.{upload_at, append_more}
use Rattle.blob_operations.specs.declared.uploads.Upload.{Upload}
use Rattle.operation_parts.proofs.RepoOutcomes.{told, same_act, spends_after}
use Rattle.blob_operations.proofs.UploadLemmas.{found_session, upload_is, chunk_fits, refusal_sent, patch_unknown, patch_refused, patch_taken}
use Rattle.operation_parts.proofs.ReadLemmas.{told_this, kept_on}
use Rattle.operation_parts.proofs.EarlyLemmas.{refused_early}
use Rattle.blob_operations.proofs.uploads.append_chunk.Goals as goal

pub returns-in-Err : goal.returns-in-Err
returns-in-Err g c =
    refused_early (λ (o : Option Upload). o) (λ o. o ≡ None) UploadUnknown c.find_upload.result _ c.in-Err.reply c.args.name.now _ _ _ _ _ c.in-Err.ensures refl refl c.find_upload.ensures
    (λ honest o none e stays a is. patch_unknown (g.K.Keeper.kept c.args.keeper.now) _ c.args.name.now c.args.reference.now (text_in c.args.range) c.args.body.now
    (c.requires.there (c.find_upload.ensures.honest honest)) (sym none ∙ e) a is c.requires.unspent stays)

pub returns-in-Err-chunk_refusal : goal.returns-in-Err-chunk_refusal
returns-in-Err-chunk_refusal g c =
    let s = g.K.Keeper.kept c.args.keeper.now in
    let mid = g.K.Keeper.kept c.find_upload.new.keeper in
    record {
      comes = λ honest. (told_this (λ (o : Option Upload). o) c.find_upload.result (Some c.in-Ok.upload) (upload_at s.world c.args.name.now c.args.reference.now) s mid c.in-Ok.ensures (c.find_upload.ensures.found honest)).1;
      answers = tt;
      carries = tt;
      spends = kept_on c.find_upload.result (Some c.in-Ok.upload) s mid c.in-Ok.ensures c.find_upload.ensures.spends;
      honest = c.find_upload.ensures.honest;
    }

pub returns-in-Ok-Some : goal.returns-in-Ok-Some
returns-in-Ok-Some g c =
    let s = g.K.Keeper.kept c.args.keeper.now in
    let mid = g.K.Keeper.kept c.find_upload.new.keeper in
    let u = c.in-Ok.upload in
    let refusal = rw c.in-Ok-Some.field-0-is at c.in-Ok-Some.ensures.refusal in
    record {
      comes = λ honest.
          let asked = told_this (λ (o : Option Upload). o) c.find_upload.result (Some u) (upload_at s.world c.args.name.now c.args.reference.now) s mid c.in-Ok.ensures (c.find_upload.ensures.found honest) in
          let f = found_session s.world c.args.name.now u.number u.size (upload_is s.world c.args.name.now c.args.reference.now u asked.0).1 in
          told s mid c.args.name.now (λ r. sessions.append_chunk r c.args.name.now c.args.reference.now (text_in c.args.range) c.args.body.now) f.repo f.at _ _ refl c.requires.unspent asked.1
          (patch_refused s.world c.args.name.now c.args.reference.now u f asked.0 (text_in c.args.range) c.args.body.now c.range_fits-verdict.result _ c.range_fits-verdict.ensures refusal);
      answers = rw c.in-Ok-Some.field-0-is at c.in-Ok-Some.ensures.answers;
      carries = refusal_sent c.range_fits-verdict.result c.args.name.now u (length c.args.body.now) _ refusal;
      spends = kept_on c.find_upload.result (Some u) s mid c.in-Ok.ensures c.find_upload.ensures.spends;
      honest = c.find_upload.ensures.honest;
    }

pub returns-in-Ok-None : goal.returns-in-Ok-None
returns-in-Ok-None g c =
    let s = g.K.Keeper.kept c.args.keeper.now in
    let mid = g.K.Keeper.kept c.find_upload.new.keeper in
    let u = c.in-Ok.upload in
    record {
      comes = λ honest.
          let asked = told_this (λ (o : Option Upload). o) c.find_upload.result (Some u) (upload_at s.world c.args.name.now c.args.reference.now) s mid c.in-Ok.ensures (c.find_upload.ensures.found (c.append.ensures.honest honest)) in
          let f = found_session s.world c.args.name.now u.number u.size (upload_is s.world c.args.name.now c.args.reference.now u asked.0).1 in
          same_act c.append.result c.args.name.now (λ r. append_more r c.args.name.now u.number c.args.body.now) (λ r. sessions.append_chunk r c.args.name.now c.args.reference.now (text_in c.args.range) c.args.body.now)
          s mid _ f.repo asked.1 f.at
          (patch_taken s.world c.args.name.now c.args.reference.now u f asked.0 (text_in c.args.range) c.args.body.now c.range_fits-verdict.result c.range_fits-verdict.ensures (rw c.in-Ok-None.field-0-is at c.in-Ok-None.ensures.refusal))
          (c.append.ensures.comes honest);
      answers = c.append.ensures.answers;
      carries = c.append.ensures.carries;
      spends = spends_after c.append.result s mid _ c.requires.unspent c.append.ensures.spends;
      honest = λ honest. c.find_upload.ensures.honest (c.append.ensures.honest honest);
    }

pub append-requires : goal.append-requires
append-requires g c =
    let s = g.K.Keeper.kept c.args.keeper.now in
    let mid = g.K.Keeper.kept c.find_upload.new.keeper in
    let u = c.in-Ok.upload in
    record {
      unspent = (kept_on c.find_upload.result (Some u) s mid c.in-Ok.ensures c.find_upload.ensures.spends).1;
      «open» = λ honest.
          let asked = told_this (λ (o : Option Upload). o) c.find_upload.result (Some u) (upload_at s.world c.args.name.now c.args.reference.now) s mid c.in-Ok.ensures (c.find_upload.ensures.found honest) in
          subst (λ x. session_size_at x.world c.args.name.now u.number ≡ Some u.size) (sym asked.1) (upload_is s.world c.args.name.now c.args.reference.now u asked.0).1;
      fits = chunk_fits c.range_fits-verdict.result c.args.name.now u (length c.args.body.now) (rw c.in-Ok-None.field-0-is at c.in-Ok-None.ensures.refusal);
    }
