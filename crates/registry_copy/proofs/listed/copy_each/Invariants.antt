use Rattle.registry_copy.specs.Parts.{ContentComes}
use Rattle.registry_copy.specs.Steps.{side}
use Rattle.registry_copy.proofs.StepLemmas.{IsGoing}
use Rattle.registry_copy.proofs.listed.copy_each.Given as goal

-- the contents so far came
abbrev pub invariant-loop-digest : goal.invariant-loop-digest
invariant-loop-digest g l =
    IsGoing (λ a. ContentComes l.kind a l.repo) (λ _ _. ⊥) l.digests
    (side g.A.Keeper.is_honest g.A.Keeper.kept l.fn.from l.from) (side g.B.Keeper.is_honest g.B.Keeper.kept l.fn.to l.to) l.digest-index
