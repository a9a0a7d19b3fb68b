use Rattle.std.proofs.Common.{◌≡◌, ◌∙◌, Bool, true, false, length, refl, sym, ap, rules}
use Rattle.registry_model.specs.declared.refusal.Refusal.TheVariants.{QuotaExceeded}
use Rattle.registry_model.specs.Answer.{Answer}
use Rattle.registry_model.specs.Doing.{course_of_answer}
use Rattle.registry_model.specs.Heads.{is_sent}
use Rattle.registry_model.specs.Keeping.{Kept, goes_on}
use Rattle.registry_model.specs.Lookups as lookups
use Rattle.registry_model.specs.Sessions.{finished}
use Rattle.operation_parts.specs.Quota.{blob_grows_over}
use Rattle.operation_parts.proofs.RepoOutcomes.{told, made}
use Rattle.blob_operations.specs.Uploads.{finish_with}
use Rattle.blob_operations.proofs.UploadLemmas.{found_session, open_there}
use Rattle.blob_operations.proofs.SessionCloseLemmas.{finish_refused, finish_taken}
use Rattle.operation_parts.proofs.ReadLemmas.{told_this, kept_on}
use Rattle.operation_parts.proofs.EarlyLemmas.{refused_early, wrote, after_it}
use Rattle.blob_operations.proofs.session_close.finish.Goals as goal

pub returns-then-length-gt-LARGEST_BLOB-clause-spends : goal.returns-then-length-gt-LARGEST_BLOB-clause-spends
returns-then-length-gt-LARGEST_BLOB-clause-spends g c = (c.requires.unspent, c.requires.unspent)

pub returns-then-not-has_digest : goal.returns-then-not-has_digest
returns-then-not-has_digest g c = record {
  comes = search rules;
  answers = ap course_of_answer c.refusal-then-not-has_digest.ensures;
  carries = ap (λ (a : Answer). is_sent a.body) c.refusal-then-not-has_digest.ensures;
  spends = (c.requires.unspent, c.requires.unspent);
  honest = λ honest. honest;
}

pub returns-in-Err : goal.returns-in-Err
returns-in-Err g c =
    let s = g.K.Keeper.kept c.args.keeper.now in
    let name = c.args.name.now in
    let number = c.args.upload.number in
    refused_early (λ (b : Bool). b) (λ b. b ≡ true) QuotaExceeded c.blob_goes_over-over.result _ c.in-Err.reply name _ _ _ _ _ c.in-Err.ensures refl refl c.blob_goes_over-over.ensures
    (λ honest b over e stays a is.
    let f = found_session s.world name number c.args.upload.size (c.requires.open (c.blob_goes_over-over.ensures.honest honest)) in
    told s _ name (λ r. finish_with r name number c.args.digest c.args.bytes.now) f.repo f.at a _ is c.requires.unspent stays
    (finish_refused s.world name number c.args.upload.size f c.args.digest c.args.bytes.now (sym c.has_digest.ensures ∙ c.if-not-has_digest.false) b e over))

pub returns-in_default : goal.returns-in_default
returns-in_default g c =
    let s = g.K.Keeper.kept c.args.keeper.now in
    let mid = g.K.Keeper.kept c.blob_goes_over-over.new.keeper in
    record {
      comes = λ honest. (told_this (λ (b : Bool). b) c.blob_goes_over-over.result false (blob_grows_over s.world c.args.name.now c.args.digest (length c.args.bytes.now) c.args.upload.size) s mid c.in-Ok.ensures (c.blob_goes_over-over.ensures.found honest)).1;
      answers = tt;
      carries = tt;
      spends = kept_on c.blob_goes_over-over.result false s mid c.in-Ok.ensures c.blob_goes_over-over.ensures.spends;
      honest = c.blob_goes_over-over.ensures.honest;
    }

pub finish-finished-requires : goal.finish-finished-requires
finish-finished-requires g c =
    let s = g.K.Keeper.kept c.args.keeper.now in
    let mid = g.K.Keeper.kept c.blob_goes_over-over.new.keeper in
    record {
      «open» = λ honest unspent. open_there s mid c.args.name.now c.args.upload
          (told_this (λ (b : Bool). b) c.blob_goes_over-over.result false (blob_grows_over s.world c.args.name.now c.args.digest (length c.args.bytes.now) c.args.upload.size) s mid c.in-Ok.ensures (c.blob_goes_over-over.ensures.found honest)).1
          (c.requires.open (c.blob_goes_over-over.ensures.honest honest));
      matching = sym c.has_digest.ensures ∙ c.if-not-has_digest.false;
      fits = c.if-length-gt-LARGEST_BLOB.false;
    }

pub returns : goal.returns
returns g c =
    let s = g.K.Keeper.kept c.args.keeper.now in
    let mid = g.K.Keeper.kept c.blob_goes_over-over.new.keeper in
    let name = c.args.name.now in
    let number = c.args.upload.number in
    let digest = c.args.digest in
    let bytes = c.args.bytes.now in
    let shown = c.created_blob.ensures.shown name c.in-Ok-blob_location.ensures in
    after_it c.finish-finished.result c.created_blob.result c.after.result name _ s _ _ _ c.after.ensures
    (wrote (lookups.finish mid.world name number digest bytes) c.finish-finished.result c.created_blob.result name _ s mid _ _ _ _
    (λ between. (told_this (λ (b : Bool). b) c.blob_goes_over-over.result false (blob_grows_over s.world name digest (length bytes) c.args.upload.size) s mid c.in-Ok.ensures (c.blob_goes_over-over.ensures.found between)).1)
    c.blob_goes_over-over.ensures.honest c.requires.unspent c.finish-finished.ensures (ap course_of_answer shown) c.created_blob.ensures.carries
    (λ between written.
    let found = told_this (λ (b : Bool). b) c.blob_goes_over-over.result false (blob_grows_over s.world name digest (length bytes) c.args.upload.size) s mid c.in-Ok.ensures (c.blob_goes_over-over.ensures.found between) in
    let f = found_session s.world name number c.args.upload.size (c.requires.open (c.blob_goes_over-over.ensures.honest between)) in
    made s _ name (λ r. finish_with r name number digest bytes) f.repo f.at _ _ shown (λ r. finished r number digest bytes)
    (written ∙ ap {A = Kept} {B = Kept} (λ x. goes_on x (lookups.finish x.world name number digest bytes)) found.1)
    (finish_taken s.world name number c.args.upload.size f digest bytes (sym c.has_digest.ensures ∙ c.if-not-has_digest.false) false found.0 refl)))
