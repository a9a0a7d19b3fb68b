use Rattle.std.proofs.Common.{◌≡◌, ◌∙◌, Ok, refl, ap, sym, subst, rules}
use Rattle.std.specs.Prelude.{IfOk}
use Rattle.std.specs.Option.{option_copied}
use Rattle.registry_model.specs.Lookups.{AreLevelsOn}
use Rattle.registry_maps.specs.Maps.{world_of}
use Rattle.registry_maps.proofs.LevelsOn.{levels_of, level_first, no_level_first, are_levels}
use Rattle.registry_maps.proofs.SeenMaps.{pushed_pair, one_behind, none_behind}
use Rattle.registry_maps.proofs.map_keeper.MapKeeper.levels_on.Goals as goal

pub returns : goal.returns
returns c =
    let k = c.args.self.now in
    let found : c.loop-token.all.items ≡ levels_of c.args.name.now k.grants.entries = search rules in
    subst (λ xs. AreLevelsOn (world_of k.repos k.grants) c.args.name.now xs) (sym found) (are_levels k.repos k.grants c.args.name.now c.iter-token-items.ensures.ordered)

pub loop-token-preserved : goal.loop-token-preserved
loop-token-preserved c =
    let none = sym (ap option_copied c.in_default.is) ∙ c.get.ensures.value in
    none_behind c.loop-token.all.items _ _ _ _ refl (no_level_first c.args.name.now c.in-Some.token.now c.in-Some.levels.now _ _ c.in-Some.ensures.steps none) c.loop-token.invariant

pub loop-token-preserved-in-Continue-1 : goal.loop-token-preserved-in-Continue-1
loop-token-preserved-in-Continue-1 c =
    let token = c.in-Some.token.now in
    let level = c.in-Some-get.level.now in
    let copy : IfOk c.clone.result (λ v. v ≡ token) = search rules in
    let there = sym (ap option_copied c.in-Some-get.is) ∙ c.get.ensures.value in
    one_behind c.loop-token.all.items _ (token, level) (token, level) _ _ _ (pushed_pair c.clone.result (Ok level) token level _ _ copy refl c.in_ok-push_pair.ensures) refl
    (level_first c.args.name.now c.in-Some.token.now c.in-Some.levels.now _ _ c.in-Some.ensures.steps c.in-Some-get.level.now there) c.loop-token.invariant
