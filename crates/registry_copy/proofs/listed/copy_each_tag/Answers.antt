use Rattle.registry_model.specs.Lookups.{manifest_bytes_at}
use Rattle.registry_copy.specs.Fit.{IsFitManifest}
use Rattle.registry_copy.specs.Parts.{TagComes}
use Rattle.registry_copy.proofs.StepLemmas.{goes_on_with}
use Rattle.registry_copy.proofs.listed.copy_each_tag.Goals as goal

pub loop-tag-preserved : goal.loop-tag-preserved
loop-tag-preserved g c =
    let e = c.loop-tag-item.result in
    goes_on_with (λ a. TagComes a c.args.repo.now) (λ _ _. ⊥) c.args.tags.now
    (g.A.Keeper.is_honest c.args.from.now) (g.A.Keeper.is_honest c.loop-tag.from) (g.A.Keeper.is_honest c.copy_manifest.new.from)
    (g.A.Keeper.kept c.args.from.now) (g.A.Keeper.kept c.loop-tag.from) (g.A.Keeper.kept c.copy_manifest.new.from)
    (g.B.Keeper.is_honest c.args.to.now) (g.B.Keeper.is_honest c.loop-tag.to) (g.B.Keeper.is_honest c.copy_manifest.new.to)
    (g.B.Keeper.kept c.args.to.now) (g.B.Keeper.kept c.loop-tag.to) (g.B.Keeper.kept c.copy_manifest.new.to)
    c.loop-tag.tag-index e (λ a. IsFitManifest e.1 (manifest_bytes_at a c.args.repo.now e.1)) (λ _ _. ⊥)
    c.loop-tag-test.true c.loop-tag-item.is c.loop-tag.invariant c.in_ok-copy_manifest.field-0 c.in_ok-copy_manifest.ensures
