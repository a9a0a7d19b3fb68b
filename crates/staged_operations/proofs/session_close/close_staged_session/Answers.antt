use Rattle.std.proofs.Common.{◌≡◌, ◌∙◌, ◌++◌, ℕ, length, cond, None, Some, Err, refl, sym, ap, subst}
use Rattle.std.specs.Prelude.{◌==◌, Option, option_map}
use Rattle.oci_types.specs.Text.{Text}
use Rattle.registry_model.specs.declared.range.RangeVerdict.TheVariants.{Fits}
use Rattle.registry_model.specs.declared.refusal.Refusal.TheVariants.{UploadUnknown, InvalidDigest}
use Rattle.registry_model.specs.Ask.{text_in}
use Rattle.registry_model.specs.Keeping.{Kept}
use Rattle.registry_model.specs.Lookups.{session_size_at}
use Rattle.registry_model.specs.Range.{range_verdict}
use Rattle.registry_model.specs.Sessions as sessions
use Rattle.registry_holding.specs.Holding.{sum_of}
use Rattle.registry_holding.specs.declared.staged.StageSum.{StageSum}
use Rattle.operation_parts.proofs.DigestLemmas.{is_verifiable}
use Rattle.operation_parts.proofs.FailedCalls.{later_read_failed}
use Rattle.operation_parts.proofs.ReadLemmas.{text_told, told_this, told_later, kept_on, text_read}
use Rattle.operation_parts.proofs.EarlyLemmas.{refused_early}
use Rattle.blob_operations.specs.Uploads.{upload_at, given_digest, chunk_refusal, finish_with, bytes_so_far}
use Rattle.blob_operations.specs.declared.uploads.Upload.{Upload}
use Rattle.blob_operations.proofs.UploadLemmas.{upload_is}
use Rattle.blob_operations.proofs.SessionCloseLemmas.{given_is, ends_unknown, ends_ungiven, ends_refused, ends_taken}
use Rattle.staged_operations.specs.Staging.{from_stage, staged_in, OperatesStaged}
use Rattle.staged_operations.proofs.StagingLemmas.{same_from, told_from, stage_is}
use Rattle.staged_operations.proofs.session_close.close_staged_session.Goals as goal

pub returns-in-Err-clause-comes : goal.returns-in-Err-clause-comes
returns-in-Err-clause-comes g c = λ honest.
    let s = g.H.Keeper.kept c.args.holder.now in
    let s' = g.H.Keeper.kept c.find_upload.new.keeper in
    let key = c.args.key in
    let name = c.args.name.now in
    let reference = c.args.reference.now in
    let given = text_in c.args.digest in
    let range = text_in c.args.range in
    let body = staged_in s key in
    (refused_early (λ (o : Option Upload). o) (λ o. o ≡ None) UploadUnknown c.find_upload.result (upload_at s.world name reference) c.in-Err.reply name (λ r. sessions.close_session r name reference given range body) (from_stage key s s') s'
    (g.H.Keeper.is_honest c.args.holder.now) (g.H.Keeper.is_honest c.find_upload.new.keeper) c.in-Err.ensures refl refl
    (told_from (λ (o : Option Upload). o) c.find_upload.result (upload_at s.world name reference) key s s' _ _ c.find_upload.ensures)
    (λ late o none e stays a is. ends_unknown (from_stage key s s') s' name reference given range body (c.requires.there (c.find_upload.ensures.honest late)) (sym none ∙ e) a is c.requires.unspent stays)).comes honest

pub returns-in-Err-found_or-clause-comes : goal.returns-in-Err-found_or-clause-comes
returns-in-Err-found_or-clause-comes g c = λ honest.
    let s = g.H.Keeper.kept c.args.holder.now in
    let mid = g.H.Keeper.kept c.find_upload.new.keeper in
    let key = c.args.key in
    let name = c.args.name.now in
    let reference = c.args.reference.now in
    let range = text_in c.args.range in
    let body = staged_in s key in
    let u = c.in-Ok.upload in
    let given = given_digest (text_in c.args.digest) in
    (refused_early (λ (o : Option Text). o) (λ o. o ≡ None) InvalidDigest c.given_digest.result given c.in-Err-found_or.reply name (λ r. sessions.close_session r name reference (text_in c.args.digest) range body) (from_stage key s mid) mid
    (g.H.Keeper.is_honest c.args.holder.now) (g.H.Keeper.is_honest c.find_upload.new.keeper) c.in-Err-found_or.ensures refl refl
    (told_from (λ (o : Option Text). o) c.given_digest.result given key s mid _ _
    (told_later (λ (o : Option Text). o) c.given_digest.result given s mid mid (g.H.Keeper.is_honest c.args.holder.now) (g.H.Keeper.is_honest c.find_upload.new.keeper) (g.H.Keeper.is_honest c.find_upload.new.keeper)
    (λ between. (told_this (λ (o : Option Upload). o) c.find_upload.result (Some u) (upload_at s.world name reference) s mid c.in-Ok.ensures (c.find_upload.ensures.found between)).1)
    c.find_upload.ensures.honest c.requires.unspent
    (text_told c.given_digest.result given mid (g.H.Keeper.is_honest c.find_upload.new.keeper) c.given_digest.ensures (kept_on c.find_upload.result (Some u) s mid c.in-Ok.ensures c.find_upload.ensures.spends).1)))
    (λ late o none e stays a is.
    let asked = told_this (λ (o : Option Upload). o) c.find_upload.result (Some u) (upload_at s.world name reference) s mid c.in-Ok.ensures (c.find_upload.ensures.found late) in
    ends_ungiven (from_stage key s mid) mid name reference u asked.0 (text_in c.args.digest) range body (sym none ∙ e) a is c.requires.unspent stays)).comes honest

pub returns-in_err-sum-clause-comes : goal.returns-in_err-sum-clause-comes
returns-in_err-sum-clause-comes g c = λ honest.
    let s = g.H.Keeper.kept c.args.holder.now in
    let mid = g.H.Keeper.kept c.find_upload.new.keeper in
    let s' = g.H.Keeper.kept c.staged.new.self in
    let key = c.args.key in
    let name = c.args.name.now in
    let reference = c.args.reference.now in
    let u = c.in-Ok.upload in
    (later_read_failed (option_map sum_of (mid.held.stages key)) c.from_residual.result c.in_err-sum.field-0.0 name (λ r. sessions.close_session r name reference (text_in c.args.digest) (text_in c.args.range) (staged_in s key))
    (from_stage key s s') (from_stage key mid s') s' (g.H.Keeper.is_honest c.args.holder.now) (g.H.Keeper.is_honest c.find_upload.new.keeper) (g.H.Keeper.is_honest c.staged.new.self) c.from_residual.ensures
    (λ between. ap (λ (x : Kept). from_stage key x s') (told_this (λ (o : Option Upload). o) c.find_upload.result (Some u) (upload_at s.world name reference) s mid c.in-Ok.ensures (c.find_upload.ensures.found between)).1)
    c.find_upload.ensures.honest c.requires.unspent
    (told_from (λ (o : Option StageSum). o) (Err c.in_err-sum.field-0.0) (option_map sum_of (mid.held.stages key)) key mid s' _ _ c.in_err-sum.ensures)).comes honest

module _ (s mid s' : Kept) (key : ℕ) (asked : mid ≡ s) (found : s' ≡ mid) where
  pub nothing_done : s' ≡ from_stage key s s'
  nothing_done = same_from key s s' (found ∙ asked)

pub returns-in_default-clause-comes : goal.returns-in_default-clause-comes
returns-in_default-clause-comes g c = λ honest.
    let s = g.H.Keeper.kept c.args.holder.now in
    let mid = g.H.Keeper.kept c.find_upload.new.keeper in
    let asked = told_this (λ (o : Option Upload). o) c.find_upload.result (Some c.in-Ok.upload) (upload_at s.world c.args.name.now c.args.reference.now) s mid c.in-Ok.ensures (c.find_upload.ensures.found (c.in_ok-sum.ensures.honest honest)) in
    nothing_done s mid (g.H.Keeper.kept c.staged.new.self) c.args.key asked.1 (c.in_ok-sum.ensures.found honest).1

pub returns-in-Err-chunk_refusal-clause-comes : goal.returns-in-Err-chunk_refusal-clause-comes
returns-in-Err-chunk_refusal-clause-comes g c = λ honest.
    let s = g.H.Keeper.kept c.args.holder.now in
    let mid = g.H.Keeper.kept c.find_upload.new.keeper in
    let asked = told_this (λ (o : Option Upload). o) c.find_upload.result (Some c.in-Ok.upload) (upload_at s.world c.args.name.now c.args.reference.now) s mid c.in-Ok.ensures (c.find_upload.ensures.found (c.in_ok-sum.ensures.honest honest)) in
    nothing_done s mid (g.H.Keeper.kept c.staged.new.self) c.args.key asked.1 (c.in_ok-sum.ensures.found honest).1

pub close_with-requires-clause-open : goal.close_with-requires-clause-open
close_with-requires-clause-open g c = λ honest.
    let s = g.H.Keeper.kept c.args.holder.now in
    let mid = g.H.Keeper.kept c.find_upload.new.keeper in
    let name = c.args.name.now in
    let reference = c.args.reference.now in
    let u = c.in-Ok.upload in
    let asked = told_this (λ (o : Option Upload). o) c.find_upload.result (Some u) (upload_at s.world name reference) s mid c.in-Ok.ensures (c.find_upload.ensures.found (c.in_ok-sum.ensures.honest honest)) in
    subst (λ (x : Kept). session_size_at x.world name u.number ≡ Some u.size) (sym ((c.in_ok-sum.ensures.found honest).1 ∙ asked.1)) (upload_is s.world name reference u asked.0).1

pub close_with-requires-clause-verified : goal.close_with-requires-clause-verified
close_with-requires-clause-verified g c =
    let text = given_is (text_in c.args.digest) c.in-Ok-found_or.digest (text_read c.given_digest.result (Some c.in-Ok-found_or.digest) (given_digest (text_in c.args.digest)) c.in-Ok-found_or.ensures c.given_digest.ensures) in
    is_verifiable c.in-Ok-found_or.digest text.0 text.2

pub close_with-requires-clause-counted : goal.close_with-requires-clause-counted
close_with-requires-clause-counted g c = λ honest.
    let mid = g.H.Keeper.kept c.find_upload.new.keeper in
    let key = c.args.key in
    let found = c.in_ok-sum.ensures.found honest in
    ap (λ (x : StageSum). x.size) (stage_is sum_of (mid.held.stages key) c.in-Some.sum (sym c.in-Some.is ∙ found.0)).1
    ∙ ap (λ (x : Kept). length (staged_in x key)) (sym found.1)

pub returns-in-Ok-Some-clause-comes : goal.returns-in-Ok-Some-clause-comes
returns-in-Ok-Some-clause-comes g c = λ honest.
    let s = g.H.Keeper.kept c.args.holder.now in
    let mid = g.H.Keeper.kept c.find_upload.new.keeper in
    let s' = g.H.Keeper.kept c.staged.new.self in
    let key = c.args.key in
    let name = c.args.name.now in
    let reference = c.args.reference.now in
    let range = text_in c.args.range in
    let body = staged_in s key in
    let u = c.in-Ok.upload in
    let v = c.last_verdict-verdict.result in
    let asked = told_this (λ (o : Option Upload). o) c.find_upload.result (Some u) (upload_at s.world name reference) s mid c.in-Ok.ensures (c.find_upload.ensures.found (c.in_ok-sum.ensures.honest honest)) in
    let found = c.in_ok-sum.ensures.found honest in
    let stage = stage_is sum_of (s.held.stages key) c.in-Some.sum (sym c.in-Some.is ∙ found.0 ∙ ap (λ (x : Kept). option_map sum_of (x.held.stages key)) asked.1) in
    let counted = ap (λ (x : StageSum). x.size) stage.1 in
    let text = given_is (text_in c.args.digest) c.in-Ok-found_or.digest (text_read c.given_digest.result (Some c.in-Ok-found_or.digest) (given_digest (text_in c.args.digest)) c.in-Ok-found_or.ensures c.given_digest.ensures) in
    ends_refused (from_stage key s s') s' name reference u asked.0 (text_in c.args.digest) range body text.0 text.1 c.in-Ok-found_or.digest text.2 v
    (c.last_verdict-verdict.ensures ∙ ap (λ (n : ℕ). cond (n == 0) Fits (range_verdict range u.size n)) counted) _ c.requires.unspent (same_from key s s' (found.1 ∙ asked.1))
    (rw c.in-Ok-Some.field-0-is at c.in-Ok-Some.ensures.refusal ∙ ap (λ (n : ℕ). chunk_refusal v name u n) counted)

pub returns-in-Ok-None-clause-comes : goal.returns-in-Ok-None-clause-comes
returns-in-Ok-None-clause-comes g c = λ honest.
    let s = g.H.Keeper.kept c.args.holder.now in
    let mid = g.H.Keeper.kept c.find_upload.new.keeper in
    let s' = g.H.Keeper.kept c.close_with.new.holder in
    let key = c.args.key in
    let name = c.args.name.now in
    let reference = c.args.reference.now in
    let range = text_in c.args.range in
    let body = staged_in s key in
    let u = c.in-Ok.upload in
    let v = c.last_verdict-verdict.result in
    let late = c.close_with.ensures.honest honest in
    let asked = told_this (λ (o : Option Upload). o) c.find_upload.result (Some u) (upload_at s.world name reference) s mid c.in-Ok.ensures (c.find_upload.ensures.found (c.in_ok-sum.ensures.honest late)) in
    let found = c.in_ok-sum.ensures.found late in
    let stage = stage_is sum_of (s.held.stages key) c.in-Some.sum (sym c.in-Some.is ∙ found.0 ∙ ap (λ (x : Kept). option_map sum_of (x.held.stages key)) asked.1) in
    let counted = ap (λ (x : StageSum). x.size) stage.1 in
    let text = given_is (text_in c.args.digest) c.in-Ok-found_or.digest (text_read c.given_digest.result (Some c.in-Ok-found_or.digest) (given_digest (text_in c.args.digest)) c.in-Ok-found_or.ensures c.given_digest.ensures) in
    ends_taken (from_stage key s s') s' name reference u asked.0 (text_in c.args.digest) range body text.0 text.1 c.in-Ok-found_or.digest text.2 v
    (c.last_verdict-verdict.ensures ∙ ap (λ (n : ℕ). cond (n == 0) Fits (range_verdict range u.size n)) counted) c.close_with.result (from_stage key s s') refl
    (rw c.in-Ok-None.field-0-is at c.in-Ok-None.ensures.refusal ∙ ap (λ (n : ℕ). chunk_refusal v name u n) counted)
    (subst (λ (x : Kept). OperatesStaged c.close_with.result name (λ t r. finish_with r name u.number c.in-Ok-found_or.digest (bytes_so_far r u.number ++ t)) key x s') (found.1 ∙ asked.1) (c.close_with.ensures.comes honest))
