use Rattle.std.proofs.Common.{◌∙◌, inl, inr, subst}
use Rattle.registry_pack.specs.Blocks.{IsInBlocks}
use Rattle.store_pack.proofs.ContentsLemmas.{in_use_at}
use Rattle.store_pack.proofs.placing.release_all.Goals as goal

pub loop-extent-preserved : goal.loop-extent-preserved
loop-extent-preserved g c = record {
  writable = λ p may. elim (c.release.ensures.writable p may) [
    | inl was ↦ c.loop-extent.invariant.writable p was
    | inr block ↦ inr (in_use_at c.args.extents.now c.loop-extent.extent-index c.extent-item.result p c.loop-extent-test.true (subst (λ e. IsInBlocks e p) c.extent-item.is block))
  ];
  retired = c.release.ensures.retired ∙ c.loop-extent.invariant.retired;
  file = record { file = c.release.ensures.file.file ∙ c.loop-extent.invariant.file.file; head = c.release.ensures.file.head ∙ c.loop-extent.invariant.file.head };
}
