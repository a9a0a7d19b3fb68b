use Rattle.registry_copy.specs.Parts.{LevelComes}
use Rattle.registry_copy.specs.Steps.{side, nobody}
use Rattle.registry_copy.proofs.StepLemmas.{IsGoing}
use Rattle.registry_copy.proofs.levels.give_levels.Given as goal

-- the levels so far came
abbrev pub invariant-loop-token : goal.invariant-loop-token
invariant-loop-token g l =
    IsGoing (λ _. LevelComes l.repo) (λ _ _. ⊥) l.levels nobody (side g.B.Keeper.is_honest g.B.Keeper.kept l.fn.to l.to) l.token-index
