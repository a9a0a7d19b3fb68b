use Rattle.std.proofs.Common.{◌∙◌, sym, ap, rules, refl}
use Rattle.std.specs.FinMap.{remove}
use Rattle.registry_maps.specs.Maps.{grants_in, kept_of}
use Rattle.registry_maps.proofs.SeenWorlds.{lent_some, lent_none, granted, granted_so, nothing_revoked}
use Rattle.registry_maps.proofs.map_keeper.MapKeeperKeeper.revoke.Goals as goal

pub returns-in-Some : goal.returns-in-Some
returns-in-Some c = record {
  made = λ honest.
      let k = c.args.self.now in
      let new = c.take_level.new.levels in
      let there = lent_some k.grants c.args.token.now c.get_mut.result c.in-Some.levels c.in-Some.is c.get_mut.ensures.value in
      let updates = (c.get_mut.follows.holds new).3 (search rules) in
      granted_so k.repos k.grants (c.get_mut.follows.lender new) c.args.token.now new updates (remove (grants_in k.grants c.args.token.now) c.args.name.now)
      (c.take_level.ensures.taken ∙ ap (λ x. remove x c.args.name.now) (sym (granted k.grants c.args.token.now c.in-Some.levels.now there)));
  spends = (refl, refl);
  honest = λ honest. honest;
}

pub returns-in_default : goal.returns-in_default
returns-in_default c = record {
  made = λ honest.
      let k = c.args.self.now in
      let none = lent_none k.grants c.args.token.now c.get_mut.result c.in_default.is c.get_mut.ensures.value in
      ap (λ g. kept_of k.repos g) c.get_mut.follows.holds-at-none ∙ nothing_revoked k.repos k.grants c.args.token.now c.args.name.now none;
  spends = (refl, refl);
  honest = λ honest. honest;
}
