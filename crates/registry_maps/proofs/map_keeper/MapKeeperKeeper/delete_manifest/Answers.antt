use Rattle.std.proofs.Common.{◌∙◌, ap, rules, refl}
use Rattle.registry_maps.specs.Maps.{kept_of}
use Rattle.registry_model.specs.Manifests.{without_manifest}
use Rattle.registry_maps.proofs.SeenWorlds.{lent_some, lent_none, changed_by, nothing_made}
use Rattle.registry_maps.proofs.map_keeper.MapKeeperKeeper.delete_manifest.Goals as goal

pub returns-in-Some : goal.returns-in-Some
returns-in-Some c = record {
  made = λ honest.
      let k = c.args.self.now in
      let new = c.delete_manifest.new.self in
      let there = lent_some k.repos c.args.repo.now c.get_mut.result c.in-Some.repository c.in-Some.is c.get_mut.ensures.value in
      let updates = (c.get_mut.follows.holds new).3 (search rules) in
      changed_by k.repos (c.get_mut.follows.lender new) k.grants c.args.repo.now c.in-Some.repository.now new there updates (λ r. without_manifest r c.args.digest.now) c.delete_manifest.ensures;
  spends = (refl, refl);
  honest = λ honest. honest;
}

pub returns-in_default : goal.returns-in_default
returns-in_default c = record {
  made = λ honest.
      let k = c.args.self.now in
      let none = lent_none k.repos c.args.repo.now c.get_mut.result c.in_default.is c.get_mut.ensures.value in
      ap (λ m. kept_of m k.grants) c.get_mut.follows.holds-at-none ∙ nothing_made k.repos k.grants c.args.repo.now (λ r. without_manifest r c.args.digest.now) none;
  spends = (refl, refl);
  honest = λ honest. honest;
}
