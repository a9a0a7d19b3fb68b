use Rattle.std.proofs.Common.{rules, refl}
use Rattle.registry_maps.proofs.SeenWorlds.{all_taken, repo_dropped}
use Rattle.registry_maps.proofs.map_keeper.MapKeeperKeeper.drop_repo.Goals as goal

pub returns : goal.returns
returns c = record {
  made = λ honest.
      let k = c.args.self.now in
      let taken = all_taken _ c.args.name.now _ (λ k v b w f' t. (search rules, search rules, search rules)) k.grants.entries c.retain.new.self.entries c.retain.ensures.filtered in
      repo_dropped k.repos c.remove.new.self k.grants c.retain.new.self c.args.name.now c.remove.ensures.updates taken;
  spends = (refl, refl);
  honest = λ honest. honest;
}
