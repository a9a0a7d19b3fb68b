use Rattle.registry_copy.specs.Parts.{ContentComes, IsFitContent}
use Rattle.registry_copy.proofs.StepLemmas.{goes_on_with}
use Rattle.registry_copy.proofs.listed.copy_each.Goals as goal

pub loop-digest-preserved : goal.loop-digest-preserved
loop-digest-preserved g c =
    let digest = c.digest-item.result in
    goes_on_with (λ a. ContentComes c.args.kind a c.args.repo.now) (λ _ _. ⊥) c.args.digests.now
    (g.A.Keeper.is_honest c.args.from.now) (g.A.Keeper.is_honest c.loop-digest.from) (g.A.Keeper.is_honest c.copy_content.new.from)
    (g.A.Keeper.kept c.args.from.now) (g.A.Keeper.kept c.loop-digest.from) (g.A.Keeper.kept c.copy_content.new.from)
    (g.B.Keeper.is_honest c.args.to.now) (g.B.Keeper.is_honest c.loop-digest.to) (g.B.Keeper.is_honest c.copy_content.new.to)
    (g.B.Keeper.kept c.args.to.now) (g.B.Keeper.kept c.loop-digest.to) (g.B.Keeper.kept c.copy_content.new.to)
    c.loop-digest.digest-index digest (λ a. IsFitContent c.args.kind a c.args.repo.now digest) (λ _ _. ⊥)
    c.loop-digest-test.true c.digest-item.is c.loop-digest.invariant c.in_ok-copy_content.field-0 c.in_ok-copy_content.ensures
