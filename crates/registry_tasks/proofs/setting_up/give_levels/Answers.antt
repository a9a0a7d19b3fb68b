use Rattle.std.proofs.Common.{◌∙◌, ◌+◌, ◌∷◌, drop, refl, ap, sym}
use Rattle.std.proofs.lemmas.List.{at_drop_more, at_drop_all}
use Rattle.registry_orders.specs.declared.options.GrantOption.{GrantOption}
use Rattle.registry_model.specs.Keeping.{state_of}
use Rattle.registry_orders.specs.Setting.{with_levels}
use Rattle.registry_orders.proofs.SettingLemmas.{level_given, level_told}
use Rattle.registry_tasks.proofs.setting_up.give_levels.Goals as goal

pub loop-grant-init : goal.loop-grant-init
loop-grant-init g c = record { honest = λ h. h; so_far = λ h. refl }

pub returns-in-Err : goal.returns-in-Err
returns-in-Err g c =
    let s = state_of (g.K.Keeper.kept c.loop-grant.service) in
    let others = drop (c.loop-grant.grant-index + 1) c.args.grants.now in
    record {
      honest = λ honest. c.loop-grant.invariant.honest (c.admin.ensures.honest honest);
      given = λ honest.
          level_told s (state_of (g.K.Keeper.kept c.admin.new.self)) _ _ c.grant-item.result others c.in-Err.fault _ (rw c.in-Err.is at (c.admin.ensures.does honest)) refl
          (c.loop-grant.invariant.so_far (c.admin.ensures.honest honest)
          ∙ at_drop_more (with_levels s.world) c.args.grants.now c.loop-grant.grant-index c.grant-item.result c.loop-grant-test.true
          ∙ ap (λ (o : GrantOption). with_levels s.world (o ∷ others)) (sym c.grant-item.is))
          c.of_command.ensures;
    }

pub loop-grant-preserved : goal.loop-grant-preserved
loop-grant-preserved g c =
    let s = state_of (g.K.Keeper.kept c.loop-grant.service) in
    let others = drop (c.loop-grant.grant-index + 1) c.args.grants.now in
    record {
      honest = λ honest. c.loop-grant.invariant.honest (c.admin.ensures.honest honest);
      so_far = λ honest. c.loop-grant.invariant.so_far (c.admin.ensures.honest honest)
          ∙ at_drop_more (with_levels s.world) c.args.grants.now c.loop-grant.grant-index c.grant-item.result c.loop-grant-test.true
          ∙ ap (λ (o : GrantOption). with_levels s.world (o ∷ others)) (sym c.grant-item.is)
          ∙ level_given s (state_of (g.K.Keeper.kept c.admin.new.self)) c.grant-item.result others c.in-Ok.field-0 (rw c.in-Ok.is at (c.admin.ensures.does honest));
    }

pub returns : goal.returns
returns g c =
    let so_far = c.loop-grant.invariant in
    let w = (g.K.Keeper.kept c.loop-grant.service).world in
    record {
      honest = so_far.honest;
      given = λ honest. so_far.so_far honest ∙ at_drop_all (with_levels w) c.args.grants.now c.loop-grant.grant-index c.loop-grant-test.false;
    }
