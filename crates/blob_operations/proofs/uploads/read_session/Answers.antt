use Rattle.std.proofs.Common.{◌≡◌, ◌∙◌, refl, sym, ap, None, Some}
use Rattle.std.specs.Prelude.{Option}
use Rattle.registry_model.specs.declared.refusal.Refusal.TheVariants.{UploadUnknown}
use Rattle.registry_model.specs.Answer.{Answer}
use Rattle.registry_model.specs.Doing.{course_of_answer}
use Rattle.registry_model.specs.Heads.{is_sent}
use Rattle.blob_operations.specs.Uploads.{upload_at}
use Rattle.blob_operations.specs.declared.uploads.Upload.{Upload}
use Rattle.blob_operations.proofs.UploadLemmas.{status_unknown, status_of}
use Rattle.operation_parts.proofs.ReadLemmas.{told_this, kept_on}
use Rattle.operation_parts.proofs.EarlyLemmas.{refused_early}
use Rattle.blob_operations.proofs.uploads.read_session.Goals as goal

pub returns-in-Err : goal.returns-in-Err
returns-in-Err g c =
    refused_early (λ (o : Option Upload). o) (λ o. o ≡ None) UploadUnknown c.find_upload.result _ c.in-Err.reply c.args.name.now _ _ _ _ _ c.in-Err.ensures refl refl c.find_upload.ensures
    (λ honest o none e stays a is. status_unknown _ _ c.args.name.now c.args.reference.now c.requires.unspent stays a (c.requires.there (c.find_upload.ensures.honest honest)) (sym none ∙ e) is)

pub returns-in-Err-session_reply : goal.returns-in-Err-session_reply
returns-in-Err-session_reply g c =
    let s = g.K.Keeper.kept c.args.keeper.now in
    let mid = g.K.Keeper.kept c.find_upload.new.keeper in
    record {
      comes = λ honest. (told_this (λ (o : Option Upload). o) c.find_upload.result (Some c.in-Ok.upload) (upload_at s.world c.args.name.now c.args.reference.now) s mid c.in-Ok.ensures (c.find_upload.ensures.found honest)).1;
      answers = tt;
      carries = tt;
      spends = kept_on c.find_upload.result (Some c.in-Ok.upload) s mid c.in-Ok.ensures c.find_upload.ensures.spends;
      honest = c.find_upload.ensures.honest;
    }

pub returns-in-Ok-session_reply : goal.returns-in-Ok-session_reply
returns-in-Ok-session_reply g c =
    let s = g.K.Keeper.kept c.args.keeper.now in
    let mid = g.K.Keeper.kept c.find_upload.new.keeper in
    record {
      comes = λ honest.
          let found = told_this (λ (o : Option Upload). o) c.find_upload.result (Some c.in-Ok.upload) (upload_at s.world c.args.name.now c.args.reference.now) s mid c.in-Ok.ensures (c.find_upload.ensures.found honest) in
          status_of s mid c.args.name.now c.args.reference.now c.requires.unspent found.1 _ c.in-Ok.upload found.0 c.in-Ok-session_reply.ensures;
      answers = ap course_of_answer c.in-Ok-session_reply.ensures;
      carries = ap (λ (a : Answer). is_sent a.body) c.in-Ok-session_reply.ensures;
      spends = kept_on c.find_upload.result (Some c.in-Ok.upload) s mid c.in-Ok.ensures c.find_upload.ensures.spends;
      honest = c.find_upload.ensures.honest;
    }
