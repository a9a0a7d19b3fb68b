use Rattle.registry_copy.specs.Parts.{TagComes}
use Rattle.registry_copy.specs.Steps.{side}
use Rattle.registry_copy.proofs.StepLemmas.{IsGoing}
use Rattle.registry_copy.proofs.listed.copy_each_tag.Given as goal

-- the tags so far came
abbrev pub invariant-loop-tag : goal.invariant-loop-tag
invariant-loop-tag g l =
    IsGoing (λ a. TagComes a l.repo) (λ _ _. ⊥) l.tags
    (side g.A.Keeper.is_honest g.A.Keeper.kept l.fn.from l.from) (side g.B.Keeper.is_honest g.B.Keeper.kept l.fn.to l.to) l.tag-index
