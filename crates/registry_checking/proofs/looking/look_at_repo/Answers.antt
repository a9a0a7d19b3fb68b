use Rattle.registry_checking.specs.Wrongs.{wrong_blobs_at, wrong_manifests_at, wrong_tags_at}
use Rattle.std.proofs.Common.{◌++◌, Ok, Err}
use Rattle.registry_checking.proofs.WrongLemmas.{passed_on, joined}
use Rattle.registry_checking.proofs.looking.look_at_repo.Goals as goal

pub returns-in_err-look_at_blobs : goal.returns-in_err-look_at_blobs
returns-in_err-look_at_blobs g c = passed_on c.from_residual.result _ _ _ _ _ _ _ _ _ c.from_residual.ensures c.in_err-look_at_blobs.ensures

pub returns-in_err-look_at_manifests : goal.returns-in_err-look_at_manifests
returns-in_err-look_at_manifests g c =
    let w = (g.K.Keeper.kept c.args.keeper.now).world in
    let repo = c.args.repo.now in
    passed_on c.from_residual-in_err-look_at_manifests.result _ _ (wrong_blobs_at w repo ++ wrong_manifests_at w repo) _ _ _ _ _ _ c.from_residual-in_err-look_at_manifests.ensures
    (joined (Err c.in_err-look_at_manifests.field-0.0) c.in_ok-look_at_blobs.field-0 (wrong_blobs_at w repo) (λ w. wrong_manifests_at w repo) _ _ _ _ _ _ _ _ _
    c.in_ok-look_at_blobs.ensures c.in_err-look_at_manifests.ensures)

pub returns : goal.returns
returns g c =
    let w = (g.K.Keeper.kept c.args.keeper.now).world in
    let repo = c.args.repo.now in
    joined c.look_at_tags.result c.in_ok-look_at_manifests.field-0 (wrong_blobs_at w repo ++ wrong_manifests_at w repo) (λ w. wrong_tags_at w repo) _ _ _ _ _ _ _ _ _
    (joined (Ok c.in_ok-look_at_manifests.field-0) c.in_ok-look_at_blobs.field-0 (wrong_blobs_at w repo) (λ w. wrong_manifests_at w repo) _ _ _ _ _ _ _ _ _
    c.in_ok-look_at_blobs.ensures c.in_ok-look_at_manifests.ensures)
    c.look_at_tags.ensures
