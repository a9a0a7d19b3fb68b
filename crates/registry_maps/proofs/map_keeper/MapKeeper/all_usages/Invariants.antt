use Rattle.std.proofs.Common.{◌≡◌, ◌++◌, map}
use Rattle.oci_types.specs.Text.{Text}
use Rattle.registry_maps.specs.declared.repository.Repository.{Repository}
use Rattle.registry_model.specs.Usage.{usage_of}
use Rattle.registry_maps.specs.Maps.{repo_of}
use Rattle.registry_maps.proofs.map_keeper.MapKeeper.all_usages.Given as goal

-- those so far and those of what is left
abbrev pub invariant-loop-name : goal.invariant-loop-name
invariant-loop-name l = l.all.items ++ map (λ (e : Text × Repository). (e.0, usage_of (repo_of e.1))) l.name-iterator ≡ map (λ (e : Text × Repository). (e.0, usage_of (repo_of e.1))) l.self.repos.entries
