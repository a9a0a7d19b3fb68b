use Rattle.std.proofs.Common.{◌∙◌, sym, ap, refl}
use Rattle.std.specs.Option.{option_copied}
use Rattle.std.specs.FinMap.{get, get-empty}
use Rattle.registry_model.specs.declared.level.Level.{Level}
use Rattle.registry_model.specs.World.{text_cmp}
use Rattle.registry_model.proofs.TextOrder.{text_total, exact_texts}
use Rattle.registry_maps.proofs.SeenMaps.{get_seen, map-same}
use Rattle.registry_maps.proofs.SeenWorlds.{granted, ungranted}
use Rattle.registry_maps.proofs.map_keeper.MapKeeperKeeper.level.Goals as goal

pub returns-in-Some : goal.returns-in-Some
returns-in-Some c = record {
  found = λ honest.
      let k = c.args.self.now in
      let levels = c.in-Some.levels.now in
      let there = sym (ap option_copied c.in-Some.is) ∙ c.get.ensures.value in (
        sym (ap (λ x. get x c.args.repo.now) (granted k.grants c.args.token.now levels there)
            ∙ get_seen text_total exact_texts (λ (l : Level). l) levels c.args.repo.now ∙ map-same _ ∙ sym (c.copied.ensures ∙ c.get-in-Some.ensures.value)),
        refl,
      );
  spends = (refl, refl);
  honest = λ honest. honest;
}

pub returns-in-None : goal.returns-in-None
returns-in-None c = record {
  found = λ honest.
      let k = c.args.self.now in
      let none = sym (ap option_copied c.in-None.is) ∙ c.get.ensures.value in
      (sym (ap (λ x. get x c.args.repo.now) (ungranted k.grants c.args.token.now none) ∙ get-empty text_cmp c.args.repo.now), refl);
  spends = (refl, refl);
  honest = λ honest. honest;
}
