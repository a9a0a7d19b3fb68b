use Rattle.std.proofs.Common.{refl}
use Rattle.registry_maps.proofs.SeenWorlds.{all_revoked}
use Rattle.registry_maps.proofs.map_keeper.MapKeeperKeeper.revoke_all.Goals as goal

pub returns : goal.returns
returns c = record {
  made = λ honest.
      let k = c.args.self.now in
      all_revoked k.repos k.grants c.remove.new.self c.args.token.now c.remove.ensures.updates;
  spends = (refl, refl);
  honest = λ honest. honest;
}
