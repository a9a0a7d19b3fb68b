use Rattle.std.proofs.Common.{◌≡◌, ◌∙◌, ◌++◌, Bool, true, false, length, refl, ap}
use Rattle.registry_model.specs.declared.refusal.Refusal.TheVariants.{QuotaExceeded}
use Rattle.registry_model.specs.Answer.{Answer}
use Rattle.registry_model.specs.Doing.{course_of_answer}
use Rattle.registry_model.specs.Heads.{is_sent}
use Rattle.registry_model.specs.Keeping.{Kept, goes_on}
use Rattle.registry_model.specs.Lookups as lookups
use Rattle.registry_model.specs.Sessions.{appended}
use Rattle.operation_parts.specs.Quota.{grows_over_at}
use Rattle.operation_parts.proofs.RepoOutcomes.{told, made}
use Rattle.blob_operations.specs.Uploads.{bytes_so_far, append_more}
use Rattle.blob_operations.proofs.UploadLemmas.{found_session, append_refused, append_taken, open_there, open_fits}
use Rattle.operation_parts.proofs.ReadLemmas.{told_this, kept_on}
use Rattle.operation_parts.proofs.EarlyLemmas.{refused_early, wrote, after_it}
use Rattle.blob_operations.proofs.uploads.append.Goals as goal

pub returns-in-Err : goal.returns-in-Err
returns-in-Err g c =
    let s = g.K.Keeper.kept c.args.keeper.now in
    let name = c.args.name.now in
    let number = c.args.upload.number in
    refused_early (λ (b : Bool). b) (λ b. b ≡ true) QuotaExceeded c.goes_over.result _ c.in-Err.reply name _ _ _ _ _ c.in-Err.ensures refl refl c.goes_over.ensures
    (λ honest b over e stays a is.
    let f = found_session s.world name number c.args.upload.size (c.requires.open (c.goes_over.ensures.honest honest)) in
    told s _ name (λ r. append_more r name number c.args.body.now) f.repo f.at a _ is c.requires.unspent stays
    (append_refused s.world name number c.args.upload.size f c.args.body.now b e over))

pub returns-in_default : goal.returns-in_default
returns-in_default g c =
    let s = g.K.Keeper.kept c.args.keeper.now in
    let mid = g.K.Keeper.kept c.goes_over.new.keeper in
    record {
      comes = λ honest. (told_this (λ (b : Bool). b) c.goes_over.result false (grows_over_at s.world c.args.name.now (length c.args.body.now) 0) s mid c.in-Ok.ensures (c.goes_over.ensures.found honest)).1;
      answers = tt;
      carries = tt;
      spends = kept_on c.goes_over.result false s mid c.in-Ok.ensures c.goes_over.ensures.spends;
      honest = c.goes_over.ensures.honest;
    }

pub append-requires : goal.append-requires
append-requires g c =
    let s = g.K.Keeper.kept c.args.keeper.now in
    let mid = g.K.Keeper.kept c.goes_over.new.keeper in
    let name = c.args.name.now in
    let same = λ (honest : g.K.Keeper.is_honest c.goes_over.new.keeper). (told_this (λ (b : Bool). b) c.goes_over.result false (grows_over_at s.world name (length c.args.body.now) 0) s mid c.in-Ok.ensures (c.goes_over.ensures.found honest)).1 in
    record {
      hashed = tt;
      «open» = λ honest unspent. open_there s mid name c.args.upload (same honest) (c.requires.open (c.goes_over.ensures.honest honest));
      fits = λ honest unspent. open_fits s mid name c.args.upload (length c.args.body.now) (same honest) (c.requires.open (c.goes_over.ensures.honest honest)) c.requires.fits;
    }

pub returns : goal.returns
returns g c =
    let s = g.K.Keeper.kept c.args.keeper.now in
    let mid = g.K.Keeper.kept c.goes_over.new.keeper in
    let name = c.args.name.now in
    let number = c.args.upload.number in
    let body = c.args.body.now in
    after_it c.append.result c.in-Ok-session_reply.reply c.after.result name _ s _ _ _ c.after.ensures
    (wrote (lookups.append mid.world name number body) c.append.result c.in-Ok-session_reply.reply name _ s mid _ _ _ _
    (λ between. (told_this (λ (b : Bool). b) c.goes_over.result false (grows_over_at s.world name (length body) 0) s mid c.in-Ok.ensures (c.goes_over.ensures.found between)).1)
    c.goes_over.ensures.honest c.requires.unspent c.append.ensures (ap course_of_answer c.in-Ok-session_reply.ensures) (ap (λ (a : Answer). is_sent a.body) c.in-Ok-session_reply.ensures)
    (λ between written.
    let found = told_this (λ (b : Bool). b) c.goes_over.result false (grows_over_at s.world name (length body) 0) s mid c.in-Ok.ensures (c.goes_over.ensures.found between) in
    let f = found_session s.world name number c.args.upload.size (c.requires.open (c.goes_over.ensures.honest between)) in
    made s _ name (λ r. append_more r name number body) f.repo f.at _ _ c.in-Ok-session_reply.ensures (λ r. appended r number (bytes_so_far r number ++ body))
    (written ∙ ap {A = Kept} {B = Kept} (λ x. goes_on x (lookups.append x.world name number body)) found.1)
    (append_taken s.world name number c.args.upload.size f body false found.0 refl)))
