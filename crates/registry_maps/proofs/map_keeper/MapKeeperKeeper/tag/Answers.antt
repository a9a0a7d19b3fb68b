use Rattle.std.proofs.Common.{refl}
use Rattle.std.specs.Prelude.{Option}
use Rattle.oci_types.specs.Text.{Text}
use Rattle.registry_maps.proofs.SeenWorlds.{repo_some, repo_none, reads_memory, spends_memory}
use Rattle.registry_maps.proofs.map_keeper.MapKeeperKeeper.tag.Goals as goal

pub returns-in-Some : goal.returns-in-Some
returns-in-Some c = record {
  found = λ honest.
      let k = c.args.self.now in
      reads_memory (λ (v : Option Text). v) c.tag.result c.or_memory.result _ _ c.or_memory.ensures (rw (repo_some k.repos k.grants c.args.repo.now c.get.result c.in-Some.repository c.in-Some.is c.get.ensures.value) c.tag.ensures);
  spends = spends_memory c.tag.result c.or_memory.result _ _ c.or_memory.ensures refl refl;
  honest = λ honest. honest;
}

pub returns-in-None : goal.returns-in-None
returns-in-None c = record {
  found = λ honest.
      let k = c.args.self.now in
      rw (repo_none k.repos k.grants c.args.repo.now c.get.result c.in-None.is c.get.ensures.value) (refl, refl);
  spends = (refl, refl);
  honest = λ honest. honest;
}
