use Rattle.std.proofs.Common.{◌≡◌, refl, rules, ap, []}
use Rattle.registry_model.specs.Keeping.{page_shown}
use Rattle.registry_maps.proofs.SeenWorlds.{repo_some, repo_none, reads_memory, spends_memory}
use Rattle.std.proofs.Common.{List, false}
use Rattle.oci_types.specs.Text.{Text}
use Rattle.registry_maps.proofs.map_keeper.MapKeeperKeeper.tags_after.Goals as goal

pub returns-in-Some : goal.returns-in-Some
returns-in-Some c = record {
  found = λ honest.
      let k = c.args.self.now in
      reads_memory page_shown c.tags_after.result c.or_memory.result _ _ c.or_memory.ensures (rw (repo_some k.repos k.grants c.args.repo.now c.get.result c.in-Some.repository c.in-Some.is c.get.ensures.value) c.tags_after.ensures);
  spends = spends_memory c.tags_after.result c.or_memory.result _ _ c.or_memory.ensures refl refl;
  honest = λ honest. honest;
}

pub returns-in-None : goal.returns-in-None
returns-in-None c = record {
  found = λ honest.
      let k = c.args.self.now in
      let empty : c.new.result.items ≡ [] = search rules in
      rw (repo_none k.repos k.grants c.args.repo.now c.get.result c.in-None.is c.get.ensures.value) (ap (λ (xs : List Text). record { tags = xs; more = false }) empty, refl);
  spends = (refl, refl);
  honest = λ honest. honest;
}
