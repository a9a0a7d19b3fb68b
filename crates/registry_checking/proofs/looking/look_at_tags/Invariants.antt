use Rattle.std.specs.List.{filter_map}
use Rattle.registry_checking.specs.Wrongs.{wrong_tag_at}
use Rattle.registry_checking.proofs.WrongLemmas.{SoFar}
use Rattle.registry_checking.proofs.looking.look_at_tags.Given as goal

-- so far what is wrong with each tag stands behind what stood there before, and nothing changed
abbrev pub invariant-loop-tag : goal.invariant-loop-tag
invariant-loop-tag g l =
    SoFar (filter_map (wrong_tag_at (g.K.Keeper.kept l.initial.keeper).world l.repo) l.yielded) l.initial.wrongs.items l.wrongs.items
    (g.K.Keeper.kept l.initial.keeper) (g.K.Keeper.kept l.keeper) (g.K.Keeper.is_honest l.initial.keeper) (g.K.Keeper.is_honest l.keeper)
