use Rattle.std.proofs.Common.{◌≡◌, ◌∙◌, Bool, true, false, refl, sym, ap}
use Rattle.registry_model.specs.declared.refusal.Refusal.TheVariants.{QuotaExceeded}
use Rattle.registry_model.specs.Doing.{course_of_answer}
use Rattle.registry_model.specs.Keeping.{Kept, goes_on}
use Rattle.registry_model.specs.World.{repo_at}
use Rattle.registry_model.specs.Lookups.{blob_at, with_mounted}
use Rattle.registry_model.specs.Lookups as lookups
use Rattle.registry_model.specs.Mount as mounts
use Rattle.operation_parts.specs.Quota.{blob_grows_over}
use Rattle.operation_parts.proofs.RepoOutcomes.{there_is, told, made}
use Rattle.blob_operations.proofs.BlobLemmas.{sized_there}
use Rattle.blob_operations.proofs.MountLemmas.{mount_refused, mount_taken}
use Rattle.operation_parts.proofs.ReadLemmas.{told_this, kept_on, still_there}
use Rattle.operation_parts.proofs.EarlyLemmas.{refused_early, wrote, after_it}
use Rattle.blob_operations.proofs.mounting.mount_from.Goals as goal

pub returns-in-Err : goal.returns-in-Err
returns-in-Err g c =
    let s = g.K.Keeper.kept c.args.keeper.now in
    let name = c.args.name.now in
    let from = c.args.source.now.name in
    refused_early (λ (b : Bool). b) (λ b. b ≡ true) QuotaExceeded c.blob_goes_over.result _ c.in-Err.reply name _ _ _ _ _ c.in-Err.ensures refl refl c.blob_goes_over.ensures
    (λ honest b over e stays a is.
    let before = c.blob_goes_over.ensures.honest honest in
    let here = there_is (repo_at s.world name) (c.requires.there before) in
    told s _ name (λ r. mounts.mounted r name c.args.digest (blob_at s.world from c.args.digest)) here.0 here.1 a _ is c.requires.unspent stays
    (mount_refused s.world name from c.args.digest c.args.source.now.size here.0 here.1 (c.requires.source before) b e over))

pub returns-in_default : goal.returns-in_default
returns-in_default g c =
    let s = g.K.Keeper.kept c.args.keeper.now in
    let mid = g.K.Keeper.kept c.blob_goes_over.new.keeper in
    record {
      comes = λ honest. (told_this (λ (b : Bool). b) c.blob_goes_over.result false (blob_grows_over s.world c.args.name.now c.args.digest c.args.source.now.size 0) s mid c.in-Ok.ensures (c.blob_goes_over.ensures.found honest)).1;
      answers = tt;
      carries = tt;
      spends = kept_on c.blob_goes_over.result false s mid c.in-Ok.ensures c.blob_goes_over.ensures.spends;
      honest = c.blob_goes_over.ensures.honest;
    }

pub mount-mounted-requires : goal.mount-mounted-requires
mount-mounted-requires g c =
    let s = g.K.Keeper.kept c.args.keeper.now in
    let mid = g.K.Keeper.kept c.blob_goes_over.new.keeper in
    let same = λ (honest : g.K.Keeper.is_honest c.blob_goes_over.new.keeper). (told_this (λ (b : Bool). b) c.blob_goes_over.result false (blob_grows_over s.world c.args.name.now c.args.digest c.args.source.now.size 0) s mid c.in-Ok.ensures (c.blob_goes_over.ensures.found honest)).1 in
    record {
      there = λ honest unspent. still_there s mid c.args.name.now (same honest) (c.requires.there (c.blob_goes_over.ensures.honest honest));
      source = λ honest unspent. sized_there s mid c.args.source.now.name c.args.digest c.args.source.now.size (same honest) (sym (c.requires.source (c.blob_goes_over.ensures.honest honest)));
    }

pub returns : goal.returns
returns g c =
    let s = g.K.Keeper.kept c.args.keeper.now in
    let mid = g.K.Keeper.kept c.blob_goes_over.new.keeper in
    let name = c.args.name.now in
    let from = c.args.source.now.name in
    let digest = c.args.digest in
    let shown = c.created_blob.ensures.shown name c.in-Ok-blob_location.ensures in
    after_it c.mount-mounted.result c.created_blob.result c.after.result name _ s _ _ _ c.after.ensures
    (wrote (lookups.mount mid.world from name digest) c.mount-mounted.result c.created_blob.result name _ s mid _ _ _ _
    (λ between. (told_this (λ (b : Bool). b) c.blob_goes_over.result false (blob_grows_over s.world name digest c.args.source.now.size 0) s mid c.in-Ok.ensures (c.blob_goes_over.ensures.found between)).1)
    c.blob_goes_over.ensures.honest c.requires.unspent c.mount-mounted.ensures (ap course_of_answer shown) c.created_blob.ensures.carries
    (λ between written.
    let found = told_this (λ (b : Bool). b) c.blob_goes_over.result false (blob_grows_over s.world name digest c.args.source.now.size 0) s mid c.in-Ok.ensures (c.blob_goes_over.ensures.found between) in
    let before = c.blob_goes_over.ensures.honest between in
    let here = there_is (repo_at s.world name) (c.requires.there before) in
    made s _ name (λ r. mounts.mounted r name digest (blob_at s.world from digest)) here.0 here.1 _ _ shown (with_mounted digest (blob_at s.world from digest))
    (written ∙ ap {A = Kept} {B = Kept} (λ x. goes_on x (lookups.mount x.world from name digest)) found.1)
    (mount_taken s.world name from digest c.args.source.now.size here.0 here.1 (c.requires.source before) false found.0 refl)))
