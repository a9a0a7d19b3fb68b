use Rattle.std.proofs.Common.{◌≡◌, Some}
use Rattle.registry_model.specs.Ask.{text_in}
use Rattle.registry_model.specs.World.{repo_at}
use Rattle.registry_model.specs.Manifests.{with_manifest}
use Rattle.registry_model.specs.Lookups.{put_manifest}
use Rattle.registry_copy.specs.Fit.{IsFitManifest}
use Rattle.registry_copy.proofs.ChainLemmas.{keeps_updated}
use Rattle.registry_copy.proofs.StepLemmas.{wrote}
use Rattle.registry_copy.proofs.putting.put_manifest.Goals as goal

pub returns-in-Ok : goal.returns-in-Ok
returns-in-Ok g c =
    let repo = c.args.repo.now in
    let digest = c.args.digest.now in
    let bytes = c.args.bytes.now in
    let tag = text_in c.args.tag in
    wrote (g.B.Keeper.is_honest c.args.to.now) (g.B.Keeper.is_honest c.put_manifest.new.self) (g.B.Keeper.kept c.args.to.now) (g.B.Keeper.kept c.put_manifest.new.self)
    c.put_manifest.result c.of_target.result (λ w. put_manifest w repo digest bytes tag) (λ w w'. w' ≡ put_manifest w repo digest bytes tag) (IsFitManifest digest (Some bytes)) (λ _. ⊥)
    c.of_target.ensures c.put_manifest.ensures.made c.put_manifest.ensures.spends c.put_manifest.ensures.honest
    (λ w. keeps_updated w repo (λ r. with_manifest r digest bytes tag) (repo_at w repo)) (λ _ w' e. e)
