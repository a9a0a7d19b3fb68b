use Rattle.std.proofs.Common.{◌≡◌, rules, refl}
use Rattle.registry_maps.proofs.SeenWorlds.{lent_some, lent_none, quota_set, repo_puts, spends_memory}
use Rattle.registry_maps.proofs.map_keeper.MapKeeperKeeper.set_repo.Goals as goal

pub returns-in-Some : goal.returns-in-Some
returns-in-Some c = record {
  made = λ honest.
      let k = c.args.self.now in
      let old = c.in-Some.repository.now in
      let new = record old { quota = c.args.quota.bytes } in
      let there = lent_some k.repos c.args.name.now c.get_mut.result c.in-Some.repository c.in-Some.is c.get_mut.ensures.value in
      let updates = (c.get_mut.follows.holds new).3 (search rules) in
      quota_set k.repos (c.get_mut.follows.lender new) k.grants c.args.name.now old new there updates c.args.quota.bytes refl;
  spends = (refl, refl);
  honest = λ honest. honest;
}

pub returns : goal.returns
returns c = record {
  made = λ honest.
      let k = c.args.self.now in
      let none = lent_none k.repos c.args.name.now c.get_mut.result c.in_default.is c.get_mut.ensures.value in
      let key : c.in-Ok.key ≡ c.args.name.now = search rules in
      repo_puts k.repos c.put.new.map k.grants c.args.name.now c.in-Ok.key c.new-made.result c.args.quota.bytes c.put.result c.or_memory.result none key
      (rw c.get_mut.follows.holds-at-none at c.put.ensures) c.new-made.ensures c.or_memory.ensures;
  spends = spends_memory c.put.result c.or_memory.result _ _ c.or_memory.ensures refl refl;
  honest = λ honest. honest;
}
