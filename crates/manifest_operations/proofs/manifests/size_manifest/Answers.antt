use Rattle.std.proofs.Common.{◌≡◌, ◌∙◌, ℕ, refl, sym, ap, None, Some}
use Rattle.std.specs.Prelude.{Option}
use Rattle.std.specs.Option.{option_and_then}
use Rattle.oci_types.specs.Text.{Text}
use Rattle.oci_types.specs.declared.kind.Kind.{Kind}
use Rattle.registry_model.specs.declared.refusal.Refusal.TheVariants.{ManifestUnknown}
use Rattle.registry_model.specs.World.{repo_at}
use Rattle.registry_model.specs.Manifests.{reference_digest}
use Rattle.registry_model.specs.Lookups.{manifest_size_at}
use Rattle.registry_model.specs.Answer.{unsent}
use Rattle.registry_model.specs.Doing.{course_of_answer}
use Rattle.operation_parts.proofs.FailedCalls.{uncarried}
use Rattle.operation_parts.proofs.ReadLemmas.{told_this, told_later, kept_on}
use Rattle.operation_parts.proofs.EarlyLemmas.{refused_early}
use Rattle.manifest_operations.proofs.ManifestLemmas.{sizes, sizes_unnamed, shows_manifest}
use Rattle.manifest_operations.proofs.manifests.size_manifest.Goals as goal

pub returns-in-Err : goal.returns-in-Err
returns-in-Err g c =
    uncarried _ _ _ _ _ _ _ (refused_early (λ (o : Option Text). o) (λ o. o ≡ None) ManifestUnknown c.find_digest-named.result _ c.in-Err.reply c.args.name.now _ _ _ _ _ c.in-Err.ensures refl refl c.find_digest-named.ensures
    (λ honest o none e stays a is. sizes_unnamed _ c.args.name.now c.args.reference.now (c.requires.there (c.find_digest-named.ensures.honest honest)) c.requires.unspent _ (sym none ∙ e) stays a is))

pub returns-in-Err-found_or : goal.returns-in-Err-found_or
returns-in-Err-found_or g c =
    let s = g.K.Keeper.kept c.args.keeper.now in
    let mid = g.K.Keeper.kept c.find_digest-named.new.keeper in
    let name = c.args.name.now in
    let named = option_and_then (λ r. reference_digest r c.args.reference.now) (repo_at s.world name) in
    let found = λ (between : g.K.Keeper.is_honest c.find_digest-named.new.keeper). told_this (λ (o : Option Text). o) c.find_digest-named.result (Some c.in-Ok.digest) named s mid c.in-Ok.ensures (c.find_digest-named.ensures.found between) in
    uncarried _ _ _ _ _ _ _ (refused_early (λ (o : Option (Kind × ℕ)). o) (λ o. o ≡ None) ManifestUnknown c.manifest_size.result (manifest_size_at mid.world name c.in-Ok.digest) c.in-Err-found_or.reply name _ s _ _ _ c.in-Err-found_or.ensures refl refl
    (told_later (λ (o : Option (Kind × ℕ)). o) c.manifest_size.result (manifest_size_at mid.world name c.in-Ok.digest) s mid _ _ _ _ (λ between. (found between).1) c.find_digest-named.ensures.honest c.requires.unspent c.manifest_size.ensures)
    (λ honest o none e stays a is.
    let between = c.manifest_size.ensures.honest honest in
    let first = (found between).1 in
    sizes s name c.args.reference.now (c.requires.there (c.find_digest-named.ensures.honest between)) c.requires.unspent mid _ c.in-Ok.digest (found between).0 first (stays ∙ sym first)
    None (sym none ∙ e) a is))

pub returns-in-Ok-found_or : goal.returns-in-Ok-found_or
returns-in-Ok-found_or g c =
    let s = g.K.Keeper.kept c.args.keeper.now in
    let mid = g.K.Keeper.kept c.find_digest-named.new.keeper in
    let name = c.args.name.now in
    record {
      comes = λ honest.
          let between = c.manifest_size.ensures.honest honest in
          let named = told_this (λ (o : Option Text). o) c.find_digest-named.result (Some c.in-Ok.digest) (option_and_then (λ r. reference_digest r c.args.reference.now) (repo_at s.world name)) s mid c.in-Ok.ensures (c.find_digest-named.ensures.found between) in
          let found = told_this (λ (o : Option (Kind × ℕ)). o) c.manifest_size.result (Some (c.in-Ok-found_or.kind, c.in-Ok-found_or.size)) (manifest_size_at mid.world name c.in-Ok.digest) mid (g.K.Keeper.kept c.manifest_size.new.self) c.in-Ok-found_or.ensures (c.manifest_size.ensures.found honest) in
          sizes s name c.args.reference.now (c.requires.there (c.find_digest-named.ensures.honest between)) c.requires.unspent mid _ c.in-Ok.digest named.0 named.1 found.1
          (Some (c.in-Ok-found_or.kind, c.in-Ok-found_or.size)) found.0 _
          (shows_manifest _ c.in-Ok.digest _ c.in-Ok-found_or.kind (unsent c.in-Ok-found_or.size) c.found.ensures c.media_type.ensures);
      answers = ap course_of_answer c.found.ensures;
      spends = (c.requires.unspent, (kept_on c.manifest_size.result (Some (c.in-Ok-found_or.kind, c.in-Ok-found_or.size)) mid _ c.in-Ok-found_or.ensures c.manifest_size.ensures.spends).1);
      honest = λ honest. c.find_digest-named.ensures.honest (c.manifest_size.ensures.honest honest);
    }
