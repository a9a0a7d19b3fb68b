use Rattle.std.proofs.Common.{◌≡◌, ◌∙◌, ℕ, length, None, refl, sym, ap, subst}
use Rattle.std.specs.Prelude.{Option, nat_lt}
use Rattle.oci_types.specs.Text.{Text}
use Rattle.oci_types.specs.Digest.{verdict_of}
use Rattle.oci_types.specs.declared.digest.Verdict.{Verdict}
use Rattle.registry_model.specs.declared.refusal.Refusal.TheVariants.{InvalidDigest}
use Rattle.registry_model.specs.Limits.{largest_blob}
use Rattle.registry_model.specs.Decision.{within_quota}
use Rattle.registry_model.specs.Blobs.{created_blob, with_blob, push_blob}
use Rattle.registry_model.specs.Keeping.{Kept}
use Rattle.operation_parts.specs.Digests.{digest_in}
use Rattle.operation_parts.proofs.ReadLemmas.{text_told}
use Rattle.operation_parts.proofs.DigestLemmas.{digest_read, no_digest}
use Rattle.operation_parts.proofs.EarlyLemmas.{refused_early}
use Rattle.blob_operations.specs.Pushing.{push_refusal}
use Rattle.blob_operations.proofs.BlobLemmas.{pushes_invalid, pushes_refused, push_added}
use Rattle.staged_operations.specs.Staging.{from_stage, staged_in, OperatesStaged}
use Rattle.staged_operations.proofs.StagingLemmas.{same_from, told_from, stage_is}
use Rattle.staged_operations.proofs.blobs.push_staged_blob.Goals as goal

pub returns-in-Err-clause-comes : goal.returns-in-Err-clause-comes
returns-in-Err-clause-comes g c = λ honest.
    let s = g.H.Keeper.kept c.args.holder.now in
    let key = c.args.key in
    let name = c.args.name.now in
    let text = c.args.text.now in
    let body = staged_in s key in
    (refused_early (λ (o : Option Text). o) (λ o. o ≡ None) InvalidDigest c.read_digest.result (digest_in text) c.in-Err.reply name (λ r. push_blob r name text body) (from_stage key s s) s
    (g.H.Keeper.is_honest c.args.holder.now) (g.H.Keeper.is_honest c.args.holder.now) c.in-Err.ensures refl refl
    (told_from (λ (o : Option Text). o) c.read_digest.result (digest_in text) key s s _ _ (text_told c.read_digest.result (digest_in text) s (g.H.Keeper.is_honest c.args.holder.now) c.read_digest.ensures c.requires.unspent))
    (λ late o none e stays a is. pushes_invalid (from_stage key s s) s name c.requires.unspent (c.requires.there late) text body a stays (no_digest text o none e) is)).comes honest

pub returns-in-Some-push_refusal-clause-comes : goal.returns-in-Some-push_refusal-clause-comes
returns-in-Some-push_refusal-clause-comes g c = λ honest.
    let s = g.H.Keeper.kept c.args.holder.now in
    let s' = g.H.Keeper.kept c.verify_stage.new.holder in
    let key = c.args.key in
    let name = c.args.name.now in
    let text = c.args.text.now in
    let body = staged_in s key in
    let digest = c.in-Ok.digest in
    let read = digest_read c.read_digest.result digest text c.in-Ok.ensures c.read_digest.ensures in
    let found = c.in_ok-size.ensures.found honest in
    let stage = stage_is (λ (t : Text). (length t, verdict_of digest t)) (s.held.stages key) (c.in-Some.size, c.in-Some.verdict) (sym c.in-Some.is ∙ found.0) in
    pushes_refused (from_stage key s s') s' name c.requires.unspent (c.requires.there (c.verify_stage.ensures.honest honest)) text body _ (same_from key s s' found.1) c.in-Some-push_refusal.refusal read.1
    (sym c.in-Some-push_refusal.is ∙ c.push_refusal.ensures ∙ ap (λ (p : ℕ × Verdict). push_refusal p.1 (nat_lt largest_blob p.0)) stage.1
    ∙ ap (λ (d : Text). push_refusal (verdict_of d body) (nat_lt largest_blob (length body))) read.0) c.refusal.ensures

pub returns-in-None-clause-comes : goal.returns-in-None-clause-comes
returns-in-None-clause-comes g c = λ honest.
    let s = g.H.Keeper.kept c.args.holder.now in
    let s' = g.H.Keeper.kept c.add_staged.new.holder in
    let key = c.args.key in
    let name = c.args.name.now in
    let text = c.args.text.now in
    let body = staged_in s key in
    let digest = c.in-Ok.digest in
    let read = digest_read c.read_digest.result digest text c.in-Ok.ensures c.read_digest.ensures in
    let found = c.in_ok-size.ensures.found (c.add_staged.ensures.honest honest) in
    let stage = stage_is (λ (t : Text). (length t, verdict_of digest t)) (s.held.stages key) (c.in-Some.size, c.in-Some.verdict) (sym c.in-Some.is ∙ found.0) in
    push_added c.add_staged.result (from_stage key s s') s' name text body digest read.0 read.1
    (sym c.in-None.is ∙ c.push_refusal.ensures ∙ ap (λ (p : ℕ × Verdict). push_refusal p.1 (nat_lt largest_blob p.0)) stage.1)
    (subst (λ (x : Kept). OperatesStaged c.add_staged.result name (λ t r. within_quota r (with_blob r digest t) (created_blob name digest)) key x s') found.1 (c.add_staged.ensures.comes honest))
