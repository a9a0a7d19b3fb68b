use Rattle.std.proofs.Common.{◌≡◌, ◌∙◌, ℕ, None, Some, refl, sym, ap, subst}
use Rattle.std.specs.Prelude.{Option, option_map}
use Rattle.registry_model.specs.declared.refusal.Refusal.TheVariants.{UploadUnknown}
use Rattle.registry_model.specs.Ask.{text_in}
use Rattle.registry_model.specs.Keeping.{Kept}
use Rattle.registry_model.specs.Range.{range_verdict}
use Rattle.registry_model.specs.Sessions as sessions
use Rattle.registry_holding.specs.Holding.{sum_of}
use Rattle.registry_holding.specs.declared.staged.StageSum.{StageSum}
use Rattle.operation_parts.proofs.RepoOutcomes.{told, same_act}
use Rattle.operation_parts.proofs.ReadLemmas.{told_this}
use Rattle.operation_parts.proofs.EarlyLemmas.{refused_early}
use Rattle.blob_operations.specs.Uploads.{upload_at, append_more, chunk_refusal}
use Rattle.blob_operations.specs.declared.uploads.Upload.{Upload}
use Rattle.blob_operations.proofs.UploadLemmas.{found_session, upload_is, refusal_sent, patch_unknown, patch_refused, patch_taken}
use Rattle.staged_operations.specs.Staging.{from_stage, staged_in, OperatesStaged}
use Rattle.staged_operations.proofs.StagingLemmas.{same_from, told_from, stage_is}
use Rattle.staged_operations.proofs.uploads.append_staged_chunk.Goals as goal

pub returns-in-Err-clause-comes : goal.returns-in-Err-clause-comes
returns-in-Err-clause-comes g c = λ honest.
    let s = g.H.Keeper.kept c.args.holder.now in
    let s' = g.H.Keeper.kept c.find_upload.new.keeper in
    let key = c.args.key in
    let name = c.args.name.now in
    let reference = c.args.reference.now in
    let range = text_in c.args.range in
    let body = staged_in s key in
    (refused_early (λ (o : Option Upload). o) (λ o. o ≡ None) UploadUnknown c.find_upload.result (upload_at s.world name reference) c.in-Err.reply name (λ r. sessions.append_chunk r name reference range body) (from_stage key s s') s'
    (g.H.Keeper.is_honest c.args.holder.now) (g.H.Keeper.is_honest c.find_upload.new.keeper) c.in-Err.ensures refl refl
    (told_from (λ (o : Option Upload). o) c.find_upload.result (upload_at s.world name reference) key s s' _ _ c.find_upload.ensures)
    (λ late o none e stays a is. patch_unknown (from_stage key s s') s' name reference range body (c.requires.there (c.find_upload.ensures.honest late)) (sym none ∙ e) a is c.requires.unspent stays)).comes honest

pub returns-in-Ok-Some-clause-comes : goal.returns-in-Ok-Some-clause-comes
returns-in-Ok-Some-clause-comes g c = λ honest.
    let s = g.H.Keeper.kept c.args.holder.now in
    let mid = g.H.Keeper.kept c.find_upload.new.keeper in
    let s' = g.H.Keeper.kept c.staged.new.self in
    let key = c.args.key in
    let name = c.args.name.now in
    let reference = c.args.reference.now in
    let range = text_in c.args.range in
    let body = staged_in s key in
    let u = c.in-Ok.upload in
    let v = c.range_fits-verdict.result in
    let between = c.in_ok-sum.ensures.honest honest in
    let asked = told_this (λ (o : Option Upload). o) c.find_upload.result (Some u) (upload_at s.world name reference) s mid c.in-Ok.ensures (c.find_upload.ensures.found between) in
    let found = c.in_ok-sum.ensures.found honest in
    let stage = stage_is sum_of (s.held.stages key) c.in-Some.sum (sym c.in-Some.is ∙ found.0 ∙ ap (λ (x : Kept). option_map sum_of (x.held.stages key)) asked.1) in
    let counted = ap (λ (x : StageSum). x.size) stage.1 in
    let f = found_session s.world name u.number u.size (upload_is s.world name reference u asked.0).1 in
    told (from_stage key s s') s' name (λ r. sessions.append_chunk r name reference range body) f.repo f.at _ _ refl c.requires.unspent (same_from key s s' (found.1 ∙ asked.1))
    (patch_refused s.world name reference u f asked.0 range body v _ (c.range_fits-verdict.ensures ∙ ap (λ (n : ℕ). range_verdict range u.size n) counted)
    (rw c.in-Ok-Some.field-0-is at c.in-Ok-Some.ensures.refusal ∙ ap (λ (n : ℕ). chunk_refusal v name u n) counted))

pub returns-in-Ok-Some-clause-carries : goal.returns-in-Ok-Some-clause-carries
returns-in-Ok-Some-clause-carries g c = refusal_sent c.range_fits-verdict.result c.args.name.now c.in-Ok.upload c.in-Some.sum.size _ (rw c.in-Ok-Some.field-0-is at c.in-Ok-Some.ensures.refusal)

pub returns-in-Ok-None-clause-comes : goal.returns-in-Ok-None-clause-comes
returns-in-Ok-None-clause-comes g c = λ honest.
    let s = g.H.Keeper.kept c.args.holder.now in
    let mid = g.H.Keeper.kept c.find_upload.new.keeper in
    let s' = g.H.Keeper.kept c.append.new.holder in
    let key = c.args.key in
    let name = c.args.name.now in
    let reference = c.args.reference.now in
    let range = text_in c.args.range in
    let body = staged_in s key in
    let u = c.in-Ok.upload in
    let v = c.range_fits-verdict.result in
    let late = c.append.ensures.honest honest in
    let asked = told_this (λ (o : Option Upload). o) c.find_upload.result (Some u) (upload_at s.world name reference) s mid c.in-Ok.ensures (c.find_upload.ensures.found (c.in_ok-sum.ensures.honest late)) in
    let found = c.in_ok-sum.ensures.found late in
    let stage = stage_is sum_of (s.held.stages key) c.in-Some.sum (sym c.in-Some.is ∙ found.0 ∙ ap (λ (x : Kept). option_map sum_of (x.held.stages key)) asked.1) in
    let counted = ap (λ (x : StageSum). x.size) stage.1 in
    let f = found_session s.world name u.number u.size (upload_is s.world name reference u asked.0).1 in
    same_act c.append.result name (λ r. append_more r name u.number body) (λ r. sessions.append_chunk r name reference range body) (from_stage key s s') (from_stage key s s') s' f.repo refl f.at
    (patch_taken s.world name reference u f asked.0 range body v (c.range_fits-verdict.ensures ∙ ap (λ (n : ℕ). range_verdict range u.size n) counted)
    (rw c.in-Ok-None.field-0-is at c.in-Ok-None.ensures.refusal ∙ ap (λ (n : ℕ). chunk_refusal v name u n) counted))
    (subst (λ (x : Kept). OperatesStaged c.append.result name (λ t r. append_more r name u.number t) key x s') (found.1 ∙ asked.1) (c.append.ensures.comes honest))
