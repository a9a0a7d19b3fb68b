use Rattle.std.proofs.Common.{refl}
use Rattle.registry_maps.proofs.SeenWorlds.{writes_memory, spends_memory}
use Rattle.registry_maps.proofs.map_keeper.MapKeeperKeeper.put_blob.Goals as goal

pub returns : goal.returns
returns c = record {
  made = λ honest.
      let k = c.args.self.now in
      let new = c.add_blob.new.self in
      writes_memory k.repos new.repos k.grants new.grants c.add_blob.result c.or_memory.result _ c.or_memory.ensures c.add_blob.ensures;
  spends = spends_memory c.add_blob.result c.or_memory.result _ _ c.or_memory.ensures refl refl;
  honest = λ honest. honest;
}
