use Rattle.std.proofs.Common.{◌∙◌, ap, refl, rules}
use Rattle.registry_maps.specs.Maps.{kept_of}
use Rattle.registry_model.specs.Ask.{text_in}
use Rattle.registry_model.specs.Manifests.{with_manifest}
use Rattle.registry_maps.proofs.SeenWorlds.{lent_some, lent_none, write_made, nothing_made, spends_memory}
use Rattle.registry_maps.proofs.map_keeper.MapKeeperKeeper.put_manifest.Goals as goal

pub returns-in-Some : goal.returns-in-Some
returns-in-Some c = record {
  made = λ honest.
      let k = c.args.self.now in
      let new = c.put_manifest.new.self in
      let there = lent_some k.repos c.args.repo.now c.get_mut.result c.in-Some.repository c.in-Some.is c.get_mut.ensures.value in
      let updates = (c.get_mut.follows.holds new).3 (search rules) in
      write_made k.repos (c.get_mut.follows.lender new) k.grants c.args.repo.now c.in-Some.repository.now new there updates
      c.put_manifest.result c.or_memory.result (λ r. with_manifest r c.args.digest.now c.args.bytes.now (text_in c.args.tag)) c.or_memory.ensures c.put_manifest.ensures;
  spends = spends_memory c.put_manifest.result c.or_memory.result _ _ c.or_memory.ensures refl refl;
  honest = λ honest. honest;
}

pub returns-in-None : goal.returns-in-None
returns-in-None c = record {
  made = λ honest.
      let k = c.args.self.now in
      let none = lent_none k.repos c.args.repo.now c.get_mut.result c.in-None.is c.get_mut.ensures.value in
      ap (λ m. kept_of m k.grants) c.get_mut.follows.holds-at-none ∙ nothing_made k.repos k.grants c.args.repo.now (λ r. with_manifest r c.args.digest.now c.args.bytes.now (text_in c.args.tag)) none;
  spends = (refl, refl);
  honest = λ honest. honest;
}
