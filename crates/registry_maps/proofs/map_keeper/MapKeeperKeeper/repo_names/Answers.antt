use Rattle.std.proofs.Common.{refl}
use Rattle.registry_model.specs.Keeping.{names_shown}
use Rattle.registry_maps.proofs.SeenWorlds.{reads_memory, spends_memory}
use Rattle.registry_maps.proofs.map_keeper.MapKeeperKeeper.repo_names.Goals as goal

pub returns : goal.returns
returns c = record {
  found = λ honest. reads_memory names_shown c.names.result c.or_memory.result _ _ c.or_memory.ensures c.names.ensures;
  spends = spends_memory c.names.result c.or_memory.result _ _ c.or_memory.ensures refl refl;
  honest = λ honest. honest;
}
