use Rattle.std.proofs.Common.{◌≡◌, ◌++◌}
use Rattle.registry_model.specs.Lookups.{grants_on}
use Rattle.registry_maps.proofs.map_keeper.MapKeeper.push_grants.Given as goal

-- those before, and those so far
abbrev pub invariant-loop-token : goal.invariant-loop-token
invariant-loop-token l = l.all.items ≡ l.initial.all.items ++ grants_on l.name l.yielded
