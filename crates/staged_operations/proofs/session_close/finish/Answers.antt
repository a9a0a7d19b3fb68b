use Rattle.std.proofs.Common.{◌≡◌, ◌∙◌, ◌+◌, ◌++◌, Bool, true, false, ℕ, Some, refl, sym, ap, subst}
use Rattle.registry_model.specs.declared.refusal.Refusal.TheVariants.{QuotaExceeded}
use Rattle.registry_model.specs.Doing.{course_of_answer}
use Rattle.registry_model.specs.Keeping.{Kept, goes_on}
use Rattle.registry_model.specs.Lookups as lookups
use Rattle.registry_model.specs.Sessions.{finished}
use Rattle.operation_parts.specs.Quota.{blob_grows_over}
use Rattle.operation_parts.proofs.RepoOutcomes.{told, made}
use Rattle.operation_parts.proofs.ReadLemmas.{told_this}
use Rattle.operation_parts.proofs.EarlyLemmas.{refused_early, wrote, after_it}
use Rattle.blob_operations.specs.Uploads.{bytes_so_far, finish_with}
use Rattle.blob_operations.proofs.UploadLemmas.{found_session}
use Rattle.blob_operations.proofs.SessionCloseLemmas.{finish_refused, finish_taken}
use Rattle.staged_operations.specs.Staging.{from_stage, staged_in}
use Rattle.staged_operations.proofs.StagingLemmas.{told_from, written_from}
use Rattle.staged_operations.proofs.WholeLemmas.{whole, whole_is, whole_long}
use Rattle.staged_operations.proofs.session_close.finish.Goals as goal

pub returns-in-Err-clause-comes : goal.returns-in-Err-clause-comes
returns-in-Err-clause-comes g c = λ honest.
    let s = g.H.Keeper.kept c.args.holder.now in
    let s' = g.H.Keeper.kept c.blob_goes_over-over.new.keeper in
    let key = c.args.key in
    let name = c.args.name.now in
    let u = c.args.upload in
    let digest = c.args.digest in
    let body = staged_in s key in
    let before = c.blob_goes_over-over.ensures.honest in
    (refused_early (λ (b : Bool). b) (λ b. b ≡ true) QuotaExceeded c.blob_goes_over-over.result (blob_grows_over s.world name digest (u.size + c.args.size) u.size) c.in-Err.reply name
    (λ r. finish_with r name u.number digest (bytes_so_far r u.number ++ body)) (from_stage key s s') s' (g.H.Keeper.is_honest c.args.holder.now) (g.H.Keeper.is_honest c.blob_goes_over-over.new.keeper) c.in-Err.ensures refl refl
    (told_from (λ (b : Bool). b) c.blob_goes_over-over.result (blob_grows_over s.world name digest (u.size + c.args.size) u.size) key s s' _ _ c.blob_goes_over-over.ensures)
    (λ late b over e stays a is.
    let f = found_session s.world name u.number u.size (c.requires.open (before late)) in
    let long = whole_long s.world name u.number u.size f body ∙ ap (λ (n : ℕ). u.size + n) (sym (c.requires.counted (before late))) in
    told (from_stage key s s') s' name (λ r. finish_with r name u.number digest (bytes_so_far r u.number ++ body)) f.repo f.at a _ is c.requires.unspent stays
    (ap (finish_with f.repo name u.number digest) (whole_is s.world name u.number u.size f body)
    ∙ finish_refused s.world name u.number u.size f digest (whole s.world name u.number body) (c.requires.matching (before late)) b (e ∙ ap (λ (n : ℕ). blob_grows_over s.world name digest n u.size) (sym long)) over))).comes honest

pub returns-clause-comes : goal.returns-clause-comes
returns-clause-comes g c = λ honest.
    let s = g.H.Keeper.kept c.args.holder.now in
    let mid = g.H.Keeper.kept c.blob_goes_over-over.new.keeper in
    let s' = g.H.Keeper.kept c.finish_staged-finished.new.self in
    let key = c.args.key in
    let name = c.args.name.now in
    let u = c.args.upload in
    let digest = c.args.digest in
    let body = staged_in s key in
    let before = c.blob_goes_over-over.ensures.honest in
    let shown = c.created_blob.ensures.shown name c.in-Ok-blob_location.ensures in
    let found = λ (between : g.H.Keeper.is_honest c.blob_goes_over-over.new.keeper). told_this (λ (b : Bool). b) c.blob_goes_over-over.result false (blob_grows_over s.world name digest (u.size + c.args.size) u.size) s mid c.in-Ok.ensures (c.blob_goes_over-over.ensures.found between) in
    (after_it c.finish_staged-finished.result c.created_blob.result c.after.result name (λ r. finish_with r name u.number digest (bytes_so_far r u.number ++ body)) (from_stage key s s') s' (g.H.Keeper.is_honest c.args.holder.now) (g.H.Keeper.is_honest c.finish_staged-finished.new.self) c.after.ensures
    (wrote (lookups.finish mid.world name u.number digest (whole mid.world name u.number body)) c.finish_staged-finished.result c.created_blob.result name (λ r. finish_with r name u.number digest (bytes_so_far r u.number ++ body)) (from_stage key s s') (from_stage key mid s') s'
    (g.H.Keeper.is_honest c.args.holder.now) (g.H.Keeper.is_honest c.blob_goes_over-over.new.keeper) (g.H.Keeper.is_honest c.finish_staged-finished.new.self)
    (λ between. ap (λ (x : Kept). from_stage key x s') (found between).1) before c.requires.unspent
    (written_from (lookups.finish mid.world name u.number digest (whole mid.world name u.number body)) c.finish_staged-finished.result key mid s' _ _ (record {
      made = λ late. let between = c.finish_staged-finished.ensures.honest late in c.finish_staged-finished.ensures.made late body
          (subst (λ (x : Kept). x.held.stages key ≡ Some body) (sym (found between).1) (c.requires.staged (before between)));
      spends = c.finish_staged-finished.ensures.spends;
      honest = c.finish_staged-finished.ensures.honest;
    }))
    (ap course_of_answer shown) c.created_blob.ensures.carries
    (λ between written.
    let f = found_session s.world name u.number u.size (c.requires.open (before between)) in
    let long = whole_long s.world name u.number u.size f body ∙ ap (λ (n : ℕ). u.size + n) (sym (c.requires.counted (before between))) in
    made (from_stage key s s') s' name (λ r. finish_with r name u.number digest (bytes_so_far r u.number ++ body)) f.repo f.at _ _ shown (λ r. finished r u.number digest (whole s.world name u.number body))
    (written ∙ ap {A = Kept} {B = Kept} (λ x. goes_on (from_stage key x s') (lookups.finish x.world name u.number digest (whole x.world name u.number body))) (found between).1)
    (ap (finish_with f.repo name u.number digest) (whole_is s.world name u.number u.size f body)
    ∙ finish_taken s.world name u.number u.size f digest (whole s.world name u.number body) (c.requires.matching (before between)) false ((found between).0 ∙ ap (λ (n : ℕ). blob_grows_over s.world name digest n u.size) (sym long)) refl)))).comes honest
