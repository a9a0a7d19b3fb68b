use Rattle.std.proofs.Common.{refl}
use Rattle.registry_model.specs.Keeping.{usages_shown}
use Rattle.registry_maps.proofs.SeenWorlds.{reads_memory, spends_memory}
use Rattle.registry_maps.proofs.map_keeper.MapKeeperKeeper.usages.Goals as goal

pub returns : goal.returns
returns c = record {
  found = λ honest. reads_memory usages_shown c.all_usages.result c.or_memory.result _ _ c.or_memory.ensures c.all_usages.ensures;
  spends = spends_memory c.all_usages.result c.or_memory.result _ _ c.or_memory.ensures refl refl;
  honest = λ honest. honest;
}
