use Rattle.registry_model.specs.World.{World}
use Rattle.registry_copy.specs.Fit.{IsFitAt}
use Rattle.registry_copy.specs.Parts.{ContentsCome, TagsCome, HeldComes}
use Rattle.registry_copy.specs.declared.contents.ContentKind.TheVariants.{Blob, Manifest}
use Rattle.registry_copy.proofs.StepLemmas.{then_step}
use Rattle.registry_copy.proofs.repository.copy_held.Goals as goal
use Rattle.std.proofs.Common.{Ok}

pub returns : goal.returns
returns g c =
    let repo = c.args.repo.now in
    let honest = g.A.Keeper.is_honest in
    let trusted = g.B.Keeper.is_honest in
    let kept = g.A.Keeper.kept in
    let had = g.B.Keeper.kept in
    let f0 = c.args.from.now in
    let t0 = c.args.to.now in
    let f1 = c.copy_contents.new.from in
    let t1 = c.copy_contents.new.to in
    let f2 = c.copy_contents-2.new.from in
    let t2 = c.copy_contents-2.new.to in
    let f3 = c.copy_tags.new.from in
    let t3 = c.copy_tags.new.to in
    then_step (honest f0) (honest f2) (honest f3) (kept f0) (kept f2) (kept f3) (trusted t0) (trusted t2) (trusted t3) (had t0) (had t2) (had t3)
    c.in_ok-copy_contents-2.field-0 c.copy_tags.result
    (λ a _ w w'. (m : World) × ContentsCome Blob a repo w m × ContentsCome Manifest a repo m w') (λ a. IsFitAt a repo) (λ _ _. ⊥)
    (λ a _. TagsCome a repo) (λ a _. HeldComes a repo) (λ a. IsFitAt a repo) (λ a. IsFitAt a repo) (λ _ _. ⊥) (λ _ _. ⊥)
    (then_step (honest f0) (honest f1) (honest f2) (kept f0) (kept f1) (kept f2) (trusted t0) (trusted t1) (trusted t2) (had t0) (had t1) (had t2)
    c.in_ok-copy_contents.field-0 (Ok c.in_ok-copy_contents-2.field-0)
    (λ a _. ContentsCome Blob a repo) (λ a. IsFitAt a repo) (λ _ _. ⊥)
    (λ a _. ContentsCome Manifest a repo) (λ a _ w w'. (m : World) × ContentsCome Blob a repo w m × ContentsCome Manifest a repo m w') (λ a. IsFitAt a repo) (λ a. IsFitAt a repo) (λ _ _. ⊥) (λ _ _. ⊥)
    c.in_ok-copy_contents.ensures c.in_ok-copy_contents-2.ensures
    (λ a x w m w' one two. (m, one, two)) (λ a fit. fit) (λ a w m one x. x))
    c.copy_tags.ensures
    (λ a x w m w' one two. record { blobs = one.0; manifests = m; blobs_come = one.1; manifests_come = one.2; tags_come = two })
    (λ a fit. fit) (λ a w m one x. x)
