use Rattle.registry_copy.specs.Parts.{RepoOfUsage, IsTaken}
use Rattle.registry_copy.specs.Steps.{side}
use Rattle.registry_copy.proofs.StepLemmas.{IsGoing}
use Rattle.registry_copy.proofs.copying.copy_repos.Given as goal

-- the repositories so far came
abbrev pub invariant-loop-repo : goal.invariant-loop-repo
invariant-loop-repo g l =
    IsGoing RepoOfUsage IsTaken l.usages
    (side g.A.Keeper.is_honest g.A.Keeper.kept l.fn.from l.from) (side g.B.Keeper.is_honest g.B.Keeper.kept l.fn.to l.to) l.repo-index
