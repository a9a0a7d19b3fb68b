use Rattle.std.proofs.Common.{refl}
use Rattle.registry_maps.proofs.map_keeper.MapKeeperKeeper.clear.Goals as goal

pub returns : goal.returns
returns c = record {
  made = λ honest. refl;
  spends = (refl, refl);
  honest = λ honest. honest;
}
