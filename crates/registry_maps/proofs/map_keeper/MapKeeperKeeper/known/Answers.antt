use Rattle.std.proofs.Common.{◌∙◌, sym, ap, refl}
use Rattle.std.specs.Option.{option_copied}
use Rattle.registry_model.specs.World.{is_known}
use Rattle.registry_maps.proofs.SeenWorlds.{known_levels, no_levels, granted, ungranted}
use Rattle.registry_maps.proofs.map_keeper.MapKeeperKeeper.known.Goals as goal

pub returns-in-Some : goal.returns-in-Some
returns-in-Some c = record {
  found = λ honest.
      let k = c.args.self.now in
      let there = sym (ap option_copied c.in-Some.is) ∙ c.get.ensures.value in
      (known_levels c.in-Some.levels.now.entries c.is_empty.result c.is_empty.ensures.0 c.is_empty.ensures.1 ∙ ap is_known (sym (granted k.grants c.args.token.now c.in-Some.levels.now there)), refl);
  spends = (refl, refl);
  honest = λ honest. honest;
}

pub returns-in-None : goal.returns-in-None
returns-in-None c = record {
  found = λ honest.
      let k = c.args.self.now in
      let none = sym (ap option_copied c.in-None.is) ∙ c.get.ensures.value in
      (sym (ap is_known (ungranted k.grants c.args.token.now none) ∙ no_levels), refl);
  spends = (refl, refl);
  honest = λ honest. honest;
}
