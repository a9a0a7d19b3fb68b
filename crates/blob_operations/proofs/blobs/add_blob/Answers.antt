use Rattle.std.proofs.Common.{◌≡◌, ◌∙◌, Bool, true, false, length, refl, sym, ap}
use Rattle.registry_model.specs.declared.refusal.Refusal.TheVariants.{QuotaExceeded}
use Rattle.registry_model.specs.Doing.{course_of_answer}
use Rattle.registry_model.specs.Keeping.{Kept, goes_on}
use Rattle.registry_model.specs.Lookups as lookups
use Rattle.operation_parts.specs.Quota.{blob_grows_over}
use Rattle.blob_operations.proofs.BlobLemmas.{adds, adds_over}
use Rattle.operation_parts.proofs.ReadLemmas.{told_this, kept_on, still_there}
use Rattle.operation_parts.proofs.EarlyLemmas.{refused_early, wrote, after_it}
use Rattle.blob_operations.proofs.blobs.add_blob.Goals as goal

pub returns-in-Err : goal.returns-in-Err
returns-in-Err g c =
    refused_early (λ (b : Bool). b) (λ b. b ≡ true) QuotaExceeded c.blob_goes_over-over.result _ c.in-Err.reply c.args.name.now _ _ _ _ _ c.in-Err.ensures refl refl c.blob_goes_over-over.ensures
    (λ honest b over e stays a is. adds_over _ _ c.args.name.now c.requires.unspent (c.requires.there (c.blob_goes_over-over.ensures.honest honest)) c.args.digest c.args.body.now a stays (sym over ∙ e) is)

pub returns-in_default : goal.returns-in_default
returns-in_default g c =
    let s = g.K.Keeper.kept c.args.keeper.now in
    let mid = g.K.Keeper.kept c.blob_goes_over-over.new.keeper in
    record {
      comes = λ honest. (told_this (λ (b : Bool). b) c.blob_goes_over-over.result false (blob_grows_over s.world c.args.name.now c.args.digest (length c.args.body.now) 0) s mid c.in-Ok.ensures (c.blob_goes_over-over.ensures.found honest)).1;
      answers = tt;
      carries = tt;
      spends = kept_on c.blob_goes_over-over.result false s mid c.in-Ok.ensures c.blob_goes_over-over.ensures.spends;
      honest = c.blob_goes_over-over.ensures.honest;
    }

pub put_blob-added-requires : goal.put_blob-added-requires
put_blob-added-requires g c =
    let s = g.K.Keeper.kept c.args.keeper.now in
    let mid = g.K.Keeper.kept c.blob_goes_over-over.new.keeper in
    record {
      there = λ honest unspent. still_there s mid c.args.name.now
          (told_this (λ (b : Bool). b) c.blob_goes_over-over.result false (blob_grows_over s.world c.args.name.now c.args.digest (length c.args.body.now) 0) s mid c.in-Ok.ensures (c.blob_goes_over-over.ensures.found honest)).1
          (c.requires.there (c.blob_goes_over-over.ensures.honest honest));
      matching = c.requires.matching;
      fits = c.requires.fits;
    }

pub returns : goal.returns
returns g c =
    let s = g.K.Keeper.kept c.args.keeper.now in
    let mid = g.K.Keeper.kept c.blob_goes_over-over.new.keeper in
    let name = c.args.name.now in
    let shown = c.created_blob.ensures.shown name c.in-Ok-blob_location.ensures in
    after_it c.put_blob-added.result c.created_blob.result c.after.result name _ s _ _ _ c.after.ensures
    (wrote (lookups.put_blob mid.world name c.args.digest c.args.body.now) c.put_blob-added.result c.created_blob.result name _ s mid _ _ _ _
    (λ between. (told_this (λ (b : Bool). b) c.blob_goes_over-over.result false (blob_grows_over s.world name c.args.digest (length c.args.body.now) 0) s mid c.in-Ok.ensures (c.blob_goes_over-over.ensures.found between)).1)
    c.blob_goes_over-over.ensures.honest c.requires.unspent c.put_blob-added.ensures (ap course_of_answer shown) c.created_blob.ensures.carries
    (λ between made.
    let found = told_this (λ (b : Bool). b) c.blob_goes_over-over.result false (blob_grows_over s.world name c.args.digest (length c.args.body.now) 0) s mid c.in-Ok.ensures (c.blob_goes_over-over.ensures.found between) in
    adds s _ name c.requires.unspent (c.requires.there (c.blob_goes_over-over.ensures.honest between)) c.args.digest c.args.body.now _ found.0
    (made ∙ ap {A = Kept} {B = Kept} (λ x. goes_on x (lookups.put_blob x.world name c.args.digest c.args.body.now)) found.1) shown))
