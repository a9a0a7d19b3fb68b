use Rattle.std.proofs.Common.{◌≡◌, ◌∙◌, Bool, true, false, ℕ, Some, refl, sym, ap, subst}
use Rattle.registry_model.specs.declared.refusal.Refusal.TheVariants.{QuotaExceeded}
use Rattle.registry_model.specs.Doing.{course_of_answer}
use Rattle.registry_model.specs.Decision.{within_quota}
use Rattle.registry_model.specs.Blobs.{created_blob, with_blob}
use Rattle.registry_model.specs.Keeping.{Kept, goes_on}
use Rattle.registry_model.specs.Lookups as lookups
use Rattle.operation_parts.specs.Quota.{blob_grows_over}
use Rattle.operation_parts.proofs.ReadLemmas.{told_this}
use Rattle.operation_parts.proofs.EarlyLemmas.{refused_early, wrote, after_it}
use Rattle.blob_operations.proofs.BlobLemmas.{adds, adds_over}
use Rattle.staged_operations.specs.Staging.{from_stage, staged_in}
use Rattle.staged_operations.proofs.StagingLemmas.{told_from, written_from}
use Rattle.staged_operations.proofs.blobs.add_staged.Goals as goal

pub returns-in-Err-clause-comes : goal.returns-in-Err-clause-comes
returns-in-Err-clause-comes g c = λ honest.
    let s = g.H.Keeper.kept c.args.holder.now in
    let s' = g.H.Keeper.kept c.blob_goes_over-over.new.keeper in
    let key = c.args.key in
    let name = c.args.name.now in
    let digest = c.args.digest in
    let body = staged_in s key in
    let before = c.blob_goes_over-over.ensures.honest in
    (refused_early (λ (b : Bool). b) (λ b. b ≡ true) QuotaExceeded c.blob_goes_over-over.result (blob_grows_over s.world name digest c.args.size 0) c.in-Err.reply name
    (λ r. within_quota r (with_blob r digest body) (created_blob name digest)) (from_stage key s s') s' (g.H.Keeper.is_honest c.args.holder.now) (g.H.Keeper.is_honest c.blob_goes_over-over.new.keeper) c.in-Err.ensures refl refl
    (told_from (λ (b : Bool). b) c.blob_goes_over-over.result (blob_grows_over s.world name digest c.args.size 0) key s s' _ _ c.blob_goes_over-over.ensures)
    (λ late b over e stays a is. adds_over (from_stage key s s') s' name c.requires.unspent (c.requires.there (before late)) digest body a stays
    (sym over ∙ e ∙ ap (λ (n : ℕ). blob_grows_over s.world name digest n 0) (c.requires.counted (before late))) is)).comes honest

pub returns-clause-comes : goal.returns-clause-comes
returns-clause-comes g c = λ honest.
    let s = g.H.Keeper.kept c.args.holder.now in
    let mid = g.H.Keeper.kept c.blob_goes_over-over.new.keeper in
    let s' = g.H.Keeper.kept c.put_staged-added.new.self in
    let key = c.args.key in
    let name = c.args.name.now in
    let digest = c.args.digest in
    let body = staged_in s key in
    let before = c.blob_goes_over-over.ensures.honest in
    let shown = c.created_blob.ensures.shown name c.in-Ok-blob_location.ensures in
    let found = λ (between : g.H.Keeper.is_honest c.blob_goes_over-over.new.keeper). told_this (λ (b : Bool). b) c.blob_goes_over-over.result false (blob_grows_over s.world name digest c.args.size 0) s mid c.in-Ok.ensures (c.blob_goes_over-over.ensures.found between) in
    (after_it c.put_staged-added.result c.created_blob.result c.after.result name (λ r. within_quota r (with_blob r digest body) (created_blob name digest)) (from_stage key s s') s' (g.H.Keeper.is_honest c.args.holder.now) (g.H.Keeper.is_honest c.put_staged-added.new.self) c.after.ensures
    (wrote (lookups.put_blob mid.world name digest body) c.put_staged-added.result c.created_blob.result name (λ r. within_quota r (with_blob r digest body) (created_blob name digest)) (from_stage key s s') (from_stage key mid s') s'
    (g.H.Keeper.is_honest c.args.holder.now) (g.H.Keeper.is_honest c.blob_goes_over-over.new.keeper) (g.H.Keeper.is_honest c.put_staged-added.new.self)
    (λ between. ap (λ (x : Kept). from_stage key x s') (found between).1) before c.requires.unspent
    (written_from (lookups.put_blob mid.world name digest body) c.put_staged-added.result key mid s' _ _ (record {
      made = λ late. let between = c.put_staged-added.ensures.honest late in c.put_staged-added.ensures.made late body
          (subst (λ (x : Kept). x.held.stages key ≡ Some body) (sym (found between).1) (c.requires.staged (before between)));
      spends = c.put_staged-added.ensures.spends;
      honest = c.put_staged-added.ensures.honest;
    }))
    (ap course_of_answer shown) c.created_blob.ensures.carries
    (λ between made. adds (from_stage key s s') s' name c.requires.unspent (c.requires.there (before between)) digest body _
    ((found between).0 ∙ ap (λ (n : ℕ). blob_grows_over s.world name digest n 0) (c.requires.counted (before between)))
    (made ∙ ap {A = Kept} {B = Kept} (λ x. goes_on (from_stage key x s') (lookups.put_blob x.world name digest body)) (found between).1) shown))).comes honest
