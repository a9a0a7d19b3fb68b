use Rattle.std.proofs.Common.{take}
use Rattle.std.specs.List.{filter_map}
use Rattle.registry_checking.specs.Wrongs.{wrong_at}
use Rattle.registry_checking.proofs.WrongLemmas.{SoFar}
use Rattle.registry_checking.proofs.looking.look_at_all.Given as goal

-- so far what is wrong with each stands behind what stood there before, and nothing changed
abbrev pub invariant-loop-digest : goal.invariant-loop-digest
invariant-loop-digest g l =
    SoFar (filter_map (wrong_at l.kept (g.K.Keeper.kept l.fn.keeper).world l.repo) (take l.digest-index l.digests)) l.fn.wrongs.items l.wrongs.items
    (g.K.Keeper.kept l.fn.keeper) (g.K.Keeper.kept l.keeper) (g.K.Keeper.is_honest l.fn.keeper) (g.K.Keeper.is_honest l.keeper)
