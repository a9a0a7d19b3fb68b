use Rattle.std.proofs.Common.{refl}
use Rattle.registry_model.specs.Keeping.{shared_in}
use Rattle.registry_maps.proofs.SeenWorlds.{reads_memory, spends_memory}
use Rattle.registry_maps.proofs.map_keeper.MapKeeperKeeper.blob.Goals as goal

pub returns : goal.returns
returns c = record {
  found = λ honest. reads_memory shared_in c.shared_blob.result c.or_memory.result _ _ c.or_memory.ensures c.shared_blob.ensures;
  spends = spends_memory c.shared_blob.result c.or_memory.result _ _ c.or_memory.ensures refl refl;
  honest = λ honest. honest;
}
