use Rattle.std.proofs.Common.{◌≡◌, refl, rules, []}
use Rattle.registry_model.specs.Keeping.{tags_shown}
use Rattle.registry_maps.proofs.SeenWorlds.{repo_some, repo_none, reads_memory, spends_memory}
use Rattle.registry_maps.proofs.map_keeper.MapKeeperKeeper.tags.Goals as goal

pub returns-in-Some : goal.returns-in-Some
returns-in-Some c = record {
  found = λ honest.
      let k = c.args.self.now in
      reads_memory tags_shown c.tags.result c.or_memory.result _ _ c.or_memory.ensures (rw (repo_some k.repos k.grants c.args.repo.now c.get.result c.in-Some.repository c.in-Some.is c.get.ensures.value) c.tags.ensures);
  spends = spends_memory c.tags.result c.or_memory.result _ _ c.or_memory.ensures refl refl;
  honest = λ honest. honest;
}

pub returns-in-None : goal.returns-in-None
returns-in-None c = record {
  found = λ honest.
      let k = c.args.self.now in
      let empty : c.new.result.items ≡ [] = search rules in
      rw (repo_none k.repos k.grants c.args.repo.now c.get.result c.in-None.is c.get.ensures.value) (empty, refl);
  spends = (refl, refl);
  honest = λ honest. honest;
}
