use Rattle.std.proofs.Common.{◌≡◌, ◌++◌}
use Rattle.registry_maps.proofs.LevelsOn.{levels_of}
use Rattle.registry_maps.proofs.map_keeper.MapKeeper.levels_on.Given as goal

-- those so far and those of what is left
abbrev pub invariant-loop-token : goal.invariant-loop-token
invariant-loop-token l = l.all.items ++ levels_of l.name l.token-iterator ≡ levels_of l.name l.self.grants.entries
