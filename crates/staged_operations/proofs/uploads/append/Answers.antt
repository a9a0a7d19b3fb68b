use Rattle.std.proofs.Common.{◌≡◌, ◌∙◌, ◌+◌, ◌++◌, Bool, true, false, ℕ, Some, refl, sym, ap, subst}
use Rattle.registry_model.specs.declared.refusal.Refusal.TheVariants.{QuotaExceeded}
use Rattle.registry_model.specs.declared.reply.Status.TheVariants.{Accepted}
use Rattle.registry_model.specs.Answer.{Answer}
use Rattle.registry_model.specs.Doing.{course_of_answer}
use Rattle.registry_model.specs.Heads.{is_sent}
use Rattle.registry_model.specs.Keeping.{Kept, goes_on}
use Rattle.registry_model.specs.Lookups as lookups
use Rattle.registry_model.specs.Sessions.{appended, session_reply}
use Rattle.operation_parts.specs.Quota.{grows_over_at}
use Rattle.operation_parts.proofs.RepoOutcomes.{told, made}
use Rattle.operation_parts.proofs.ReadLemmas.{told_this}
use Rattle.operation_parts.proofs.EarlyLemmas.{refused_early, wrote, after_it}
use Rattle.blob_operations.specs.Uploads.{bytes_so_far, append_more}
use Rattle.blob_operations.proofs.UploadLemmas.{found_session, append_refused, append_taken}
use Rattle.staged_operations.specs.Staging.{from_stage, staged_in}
use Rattle.staged_operations.proofs.StagingLemmas.{told_from, written_from}
use Rattle.staged_operations.proofs.uploads.append.Goals as goal

pub returns-in-Err-clause-comes : goal.returns-in-Err-clause-comes
returns-in-Err-clause-comes g c = λ honest.
    let s = g.H.Keeper.kept c.args.holder.now in
    let s' = g.H.Keeper.kept c.goes_over.new.keeper in
    let key = c.args.key in
    let name = c.args.name.now in
    let number = c.args.upload.number in
    let body = staged_in s key in
    let before = c.goes_over.ensures.honest in
    (refused_early (λ (b : Bool). b) (λ b. b ≡ true) QuotaExceeded c.goes_over.result (grows_over_at s.world name c.args.size 0) c.in-Err.reply name (λ r. append_more r name number body) (from_stage key s s') s'
    (g.H.Keeper.is_honest c.args.holder.now) (g.H.Keeper.is_honest c.goes_over.new.keeper) c.in-Err.ensures refl refl
    (told_from (λ (b : Bool). b) c.goes_over.result (grows_over_at s.world name c.args.size 0) key s s' _ _ c.goes_over.ensures)
    (λ late b over e stays a is.
    let f = found_session s.world name number c.args.upload.size (c.requires.open (before late)) in
    told (from_stage key s s') s' name (λ r. append_more r name number body) f.repo f.at a _ is c.requires.unspent stays
    (append_refused s.world name number c.args.upload.size f body b (e ∙ ap (λ (n : ℕ). grows_over_at s.world name n 0) (c.requires.counted (before late))) over))).comes honest

pub returns-clause-comes : goal.returns-clause-comes
returns-clause-comes g c = λ honest.
    let s = g.H.Keeper.kept c.args.holder.now in
    let mid = g.H.Keeper.kept c.goes_over.new.keeper in
    let s' = g.H.Keeper.kept c.append_staged.new.self in
    let key = c.args.key in
    let name = c.args.name.now in
    let number = c.args.upload.number in
    let body = staged_in s key in
    let before = c.goes_over.ensures.honest in
    let found = λ (between : g.H.Keeper.is_honest c.goes_over.new.keeper). told_this (λ (b : Bool). b) c.goes_over.result false (grows_over_at s.world name c.args.size 0) s mid c.in-Ok.ensures (c.goes_over.ensures.found between) in
    (after_it c.append_staged.result c.in-Ok-session_reply.reply c.after.result name (λ r. append_more r name number body) (from_stage key s s') s' (g.H.Keeper.is_honest c.args.holder.now) (g.H.Keeper.is_honest c.append_staged.new.self) c.after.ensures
    (wrote (lookups.append mid.world name number body) c.append_staged.result c.in-Ok-session_reply.reply name (λ r. append_more r name number body) (from_stage key s s') (from_stage key mid s') s'
    (g.H.Keeper.is_honest c.args.holder.now) (g.H.Keeper.is_honest c.goes_over.new.keeper) (g.H.Keeper.is_honest c.append_staged.new.self)
    (λ between. ap (λ (x : Kept). from_stage key x s') (found between).1) before c.requires.unspent
    (written_from (lookups.append mid.world name number body) c.append_staged.result key mid s' _ _ (record {
      made = λ late. let between = c.append_staged.ensures.honest late in c.append_staged.ensures.made late body
          (subst (λ (x : Kept). x.held.stages key ≡ Some body) (sym (found between).1) (c.requires.staged (before between)));
      spends = c.append_staged.ensures.spends;
      honest = c.append_staged.ensures.honest;
    }))
    (ap course_of_answer c.in-Ok-session_reply.ensures) (ap (λ (a : Answer). is_sent a.body) c.in-Ok-session_reply.ensures)
    (λ between written.
    let counted = c.requires.counted (before between) in
    let f = found_session s.world name number c.args.upload.size (c.requires.open (before between)) in
    made (from_stage key s s') s' name (λ r. append_more r name number body) f.repo f.at _ _ (c.in-Ok-session_reply.ensures ∙ ap (λ (n : ℕ). session_reply Accepted name number (c.args.upload.size + n)) counted)
    (λ r. appended r number (bytes_so_far r number ++ body))
    (written ∙ ap {A = Kept} {B = Kept} (λ x. goes_on (from_stage key x s') (lookups.append x.world name number body)) (found between).1)
    (append_taken s.world name number c.args.upload.size f body false ((found between).0 ∙ ap (λ (n : ℕ). grows_over_at s.world name n 0) counted) refl)))).comes honest
