use Rattle.std.proofs.Common.{take}
use Rattle.std.specs.List.{flat_map}
use Rattle.registry_checking.specs.Wrongs.{wrongs_at}
use Rattle.registry_checking.proofs.WrongLemmas.{SoFar}
use Rattle.registry_checking.proofs.looking.look_at_repos.Given as goal

-- so far what is wrong in each repository stands behind what stood there before, and nothing changed
abbrev pub invariant-loop-repo : goal.invariant-loop-repo
invariant-loop-repo g l =
    SoFar (flat_map (λ u. wrongs_at (g.K.Keeper.kept l.fn.keeper).world u.0) (take l.repo-index l.usages)) l.fn.wrongs.items l.wrongs.items
    (g.K.Keeper.kept l.fn.keeper) (g.K.Keeper.kept l.keeper) (g.K.Keeper.is_honest l.fn.keeper) (g.K.Keeper.is_honest l.keeper)
