use Rattle.std.proofs.Common.{List, ◌++◌}
use Rattle.std.specs.BTreeMap.{keys}
use Rattle.registry_model.specs.declared.grant.Grant.{Grant}
use Rattle.registry_model.specs.Lookups.{AreLevelsOver}
use Rattle.registry_maps.specs.Maps.{world_of}
use Rattle.registry_maps.proofs.map_keeper.MapKeeper.all_grants.Given as goal

-- with the levels on the repositories that are left, those so far are the levels on all
abbrev pub invariant-loop-repo : goal.invariant-loop-repo
invariant-loop-repo l =
    let w = world_of l.self.repos l.self.grants in
    (rest : List Grant) → AreLevelsOver w l.repo-iterator rest → AreLevelsOver w (keys l.self.repos) (l.all.items ++ rest)
