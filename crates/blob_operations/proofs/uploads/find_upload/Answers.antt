use Rattle.std.proofs.Common.{◌∙◌, ℕ, None, Some, refl, sym}
use Rattle.std.specs.Prelude.{Option}
use Rattle.blob_operations.specs.Uploads.{upload_at}
use Rattle.blob_operations.specs.declared.uploads.Upload.{Upload}
use Rattle.blob_operations.proofs.UploadLemmas.{none_in, no_upload, upload_by}
use Rattle.operation_parts.proofs.ReadLemmas.{read_failed}
use Rattle.blob_operations.proofs.uploads.find_upload.Goals as goal

pub returns-in_default : goal.returns-in_default
returns-in_default g c = record {
  found = λ honest. (no_upload (g.K.Keeper.kept c.args.keeper.now).world c.args.name.now c.args.reference.now (sym c.session_number.ensures ∙ none_in c.session_number.result c.in_default.not-Some), refl);
  spends = (c.requires.unspent, c.requires.unspent);
  honest = λ honest. honest;
}

pub returns-in_err-session_size : goal.returns-in_err-session_size
returns-in_err-session_size g c =
    read_failed (λ (o : Option Upload). o) (upload_at (g.K.Keeper.kept c.args.keeper.now).world c.args.name.now c.args.reference.now) (λ (o : Option ℕ). o) _
    c.from_residual.result c.in_err-session_size.field-0.0 _ _ _ _ c.from_residual.ensures c.in_err-session_size.ensures

pub returns-in-None : goal.returns-in-None
returns-in-None g c = record {
  found = λ honest.
      let found = c.in_ok-session_size.ensures.found honest in
      (upload_by (g.K.Keeper.kept c.args.keeper.now).world c.args.name.now c.args.reference.now c.in-Some.number (sym c.session_number.ensures ∙ c.in-Some.is) None (sym c.in-None.is ∙ found.0), found.1);
  spends = c.in_ok-session_size.ensures.spends;
  honest = c.in_ok-session_size.ensures.honest;
}

pub returns-in-Some-2 : goal.returns-in-Some-2
returns-in-Some-2 g c = record {
  found = λ honest.
      let found = c.in_ok-session_size.ensures.found honest in
      (upload_by (g.K.Keeper.kept c.args.keeper.now).world c.args.name.now c.args.reference.now c.in-Some.number (sym c.session_number.ensures ∙ c.in-Some.is) (Some c.in-Some-2.size) (sym c.in-Some-2.is ∙ found.0), found.1);
  spends = c.in_ok-session_size.ensures.spends;
  honest = c.in_ok-session_size.ensures.honest;
}
