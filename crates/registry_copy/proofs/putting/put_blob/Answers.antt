use Rattle.std.proofs.Common.{◌≡◌, Some}
use Rattle.registry_model.specs.World.{repo_at}
use Rattle.registry_model.specs.Blobs.{with_blob}
use Rattle.registry_model.specs.Lookups.{put_blob}
use Rattle.registry_copy.specs.Fit.{IsFitBlob}
use Rattle.registry_copy.proofs.ChainLemmas.{keeps_updated}
use Rattle.registry_copy.proofs.StepLemmas.{wrote}
use Rattle.registry_copy.proofs.putting.put_blob.Goals as goal

pub returns : goal.returns
returns g c =
    let repo = c.args.repo.now in
    let digest = c.args.digest.now in
    let bytes = c.args.bytes.now in
    wrote (g.B.Keeper.is_honest c.args.to.now) (g.B.Keeper.is_honest c.put_blob.new.self) (g.B.Keeper.kept c.args.to.now) (g.B.Keeper.kept c.put_blob.new.self)
    c.put_blob.result c.of_target.result (λ w. put_blob w repo digest bytes) (λ w w'. w' ≡ put_blob w repo digest bytes) (IsFitBlob digest (Some bytes)) (λ _. ⊥)
    c.of_target.ensures c.put_blob.ensures.made c.put_blob.ensures.spends c.put_blob.ensures.honest
    (λ w. keeps_updated w repo (λ r. with_blob r digest bytes) (repo_at w repo)) (λ _ w' e. e)
