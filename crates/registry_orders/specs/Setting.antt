-- The world that a registry over memory begins with: the repositories and the grants that the program was
-- told, as the commands that make and give them say (profile).
use Rattle.std.specs.Prelude.{◌≡◌, true, List, [], ◌∷◌, Result, Ok, Err, ⊤, if◌then◌else◌}
use Rattle.registry_model.specs.World.{World, no_world, has_repo}
use Rattle.registry_model.specs.Command.{set_repo, grant}
use Rattle.registry_model.specs.Keeping.{State}
use Rattle.registry_orders.specs.declared.failure.Failure.{Failure}
use Rattle.registry_orders.specs.declared.failure.Failure.TheVariants.{NoRepo, RepoThere, OutOfMemory, StorageFailure}
use Rattle.registry_orders.specs.declared.options.RepoOption.{RepoOption}
use Rattle.registry_orders.specs.declared.options.GrantOption.{GrantOption}
use Rattle.registry_orders.specs.declared.options.Setup.{Setup}

-- the repositories are made, one after the other; the first that is there already is refused
abbrev pub with_repos : World → List RepoOption → Result World Failure
with_repos w [] = Ok w
with_repos w (o ∷ others) =
    if has_repo w o.name then Err RepoThere else with_repos (set_repo w o.name o.quota.bytes) others

-- the levels are given, one after the other; the first on a repository that is not there is refused
abbrev pub with_levels : World → List GrantOption → Result World Failure
with_levels w [] = Ok w
with_levels w (o ∷ others) =
    if has_repo w o.name then with_levels (grant w o.token o.name o.level) others else Err NoRepo

abbrev pub levels_if : Result World Failure → List GrantOption → Result World Failure
levels_if (Err f) grants = Err f
levels_if (Ok w) grants = with_levels w grants

-- the world that the setup makes of another, or why there is none
abbrev pub world_from : World → Setup → Result World Failure
world_from w s = levels_if (with_repos w s.repos.items) s.grants.items

abbrev pub world_by : Setup → Result World Failure
world_by s = world_from no_world s

-- a service was set up, or why not: a storage failure, want of memory, or a refusal
abbrev pub SetsUp : Result World Failure → Result (Unit {0}) Failure → State → Type 0
SetsUp made (Ok v) s = made ≡ Ok s.world
SetsUp made (Err OutOfMemory) s = ⊤
SetsUp made (Err StorageFailure) s = s.spent ≡ true
SetsUp made (Err f) s = made ≡ Err f
