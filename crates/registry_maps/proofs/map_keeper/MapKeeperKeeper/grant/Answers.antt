use Rattle.std.proofs.Common.{◌≡◌, ◌∙◌, rules, refl}
use Rattle.std.specs.FinMap.{insert}
use Rattle.registry_maps.specs.Maps.{levels_in}
use Rattle.registry_maps.proofs.SeenWorlds.{lent_some, lent_none, grant_writes, first_grant, spends_memory}
use Rattle.registry_maps.proofs.map_keeper.MapKeeperKeeper.grant.Goals as goal

pub returns-in-Some : goal.returns-in-Some
returns-in-Some c = record {
  made = λ honest.
      let k = c.args.self.now in
      let new = c.set_level.new.levels in
      let there = lent_some k.grants c.args.token.now c.get_mut.result c.in-Some.levels c.in-Some.is c.get_mut.ensures.value in
      let updates = (c.get_mut.follows.holds new).3 (search rules) in
      grant_writes k.repos k.grants (c.get_mut.follows.lender new) c.args.token.now new updates
      c.set_level.result c.or_memory.result c.in-Some.levels.now c.args.name.now c.args.level there c.or_memory.ensures c.set_level.ensures;
  spends = spends_memory c.set_level.result c.or_memory.result _ _ c.or_memory.ensures refl refl;
  honest = λ honest. honest;
}

pub returns : goal.returns
returns c = record {
  made = λ honest.
      let k = c.args.self.now in
      let none = lent_none k.grants c.args.token.now c.get_mut.result c.in_default.is c.get_mut.ensures.value in
      let key : c.in-Ok.key ≡ c.args.token.now = search rules in
      first_grant k.repos k.grants c.put.new.map c.args.token.now c.in-Ok.key c.args.name.now c.args.level c.set_level-2.new.levels c.put.result c.or_memory-2.result none key
      (rw c.get_mut.follows.holds-at-none at c.put.ensures) (c.in-Ok-set_level.ensures ∙ (λ i. insert (levels_in (c.new-levels.ensures.empty i)) c.args.name.now c.args.level)) c.or_memory-2.ensures;
  spends = spends_memory c.put.result c.or_memory-2.result _ _ c.or_memory-2.ensures refl refl;
  honest = λ honest. honest;
}
