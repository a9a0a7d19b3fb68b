use Rattle.std.proofs.Common.{refl}
use Rattle.registry_maps.proofs.SeenWorlds.{reads_so_memory, spends_memory}
use Rattle.registry_maps.proofs.map_keeper.MapKeeperKeeper.grants.Goals as goal

pub returns : goal.returns
returns c = record {
  found = λ honest. reads_so_memory _ c.all_grants.result c.or_memory.result _ c.or_memory.ensures c.all_grants.ensures;
  spends = spends_memory c.all_grants.result c.or_memory.result _ _ c.or_memory.ensures refl refl;
  honest = λ honest. honest;
}
