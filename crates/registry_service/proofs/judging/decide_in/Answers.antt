use Rattle.std.proofs.Common.{◌∙◌, Some, Ok, refl, sym, ap, subst}
use Rattle.std.specs.Prelude.{option_map}
use Rattle.registry_model.specs.declared.refusal.Refusal.TheVariants.{AccessDenied}
use Rattle.registry_model.specs.World.{repo_at}
use Rattle.registry_model.specs.Answer.{refused}
use Rattle.registry_model.specs.Ask.{ask_of}
use Rattle.registry_model.specs.Judging.{not_allowed, granted}
use Rattle.operation_parts.proofs.RepoOutcomes.{spends_after}
use Rattle.registry_service.specs.Operations.{shown_operation}
use Rattle.registry_service.specs.Bodies.{from_body, ask_with}
use Rattle.registry_service.proofs.BodyLemmas.{to_each, same_from}
use Rattle.registry_service.proofs.JudgingLemmas.{gave_up, told, at_level, denied, operated}
use Rattle.registry_service.proofs.SizingLemmas.{not_sizing}
use Rattle.registry_service.proofs.judging.decide_in.Goals as goal

pub returns-in_default : goal.returns-in_default
returns-in_default g c =
    let s = g.K.Keeper.kept c.args.keeper.now in
    let q = ask_of c.args.request.now in
    to_each (g.B.RequestBody.stage c.args.body) _ (Ok c.not_allowed.result) (Some c.args.name.now)
    (λ t. at_level (s.world.grants c.args.token.now) (repo_at s.world) c.args.name.now (ask_with q t)) _ s s _ _
    (λ t. told c.not_allowed.result (not_allowed q.form).reply (Some c.args.name.now) (at_level (s.world.grants c.args.token.now) (repo_at s.world) c.args.name.now (ask_with q t))
    _ s s _ _ c.not_allowed.ensures.refusal refl refl c.requires c.requires (λ _. refl) (λ honest. honest)
    (λ honest. ap (λ o. granted (s.world.grants c.args.token.now) (repo_at s.world) c.args.name.now q.form o t) (sym c.find_operation.ensures ∙ ap (option_map shown_operation) c.in_default.is)))

pub returns-in_err-level : goal.returns-in_err-level
returns-in_err-level g c =
    let s = g.K.Keeper.kept c.args.keeper.now in
    to_each (g.B.RequestBody.stage c.args.body) _ c.from_residual.result (Some c.args.name.now)
    (λ t. at_level (s.world.grants c.args.token.now) (repo_at s.world) c.args.name.now (ask_with (ask_of c.args.request.now) t)) _ s _ _ _
    (λ t. gave_up _ c.from_residual.result c.in_err-level.field-0.0 _ _ _ _ _ _ _ c.from_residual.ensures c.in_err-level.ensures)

pub returns-then-not-allows : goal.returns-then-not-allows
returns-then-not-allows g c =
    let s = g.K.Keeper.kept c.args.keeper.now in
    let q = ask_of c.args.request.now in
    let read = c.in_ok-level.ensures in
    to_each (g.B.RequestBody.stage c.args.body) _ (Ok c.refusal.result) (Some c.args.name.now)
    (λ t. at_level (s.world.grants c.args.token.now) (repo_at s.world) c.args.name.now (ask_with q t)) _ s _ _ _
    (λ t. told c.refusal.result (refused AccessDenied) (Some c.args.name.now) (at_level (s.world.grants c.args.token.now) (repo_at s.world) c.args.name.now (ask_with q t))
    _ s _ _ _ c.refusal.ensures refl refl read.spends.0 read.spends.1 (λ honest. (read.found honest).1) read.honest
    (λ honest. denied (s.world.grants c.args.token.now) (repo_at s.world) c.args.name.now (ask_with q t) (shown_operation c.in-Some.operation) c.in_ok-level.level
    (sym c.find_operation.ensures ∙ ap (option_map shown_operation) c.in-Some.is) (read.found honest).0 (sym c.allows.ensures ∙ c.if-not-allows.true)))

pub returns : goal.returns
returns g c = record {
  comes = λ honest t is.
      let stage = g.B.RequestBody.stage c.args.body in
      let s = g.K.Keeper.kept c.args.keeper.now in
      let mid = g.K.Keeper.kept c.level.new.self in
      let late = g.K.Keeper.kept c.operate.new.keeper in
      let read = c.in_ok-level.ensures.found (c.operate.ensures.honest honest) in
      operated c.operate.result c.args.token.now c.args.name.now (ask_with (ask_of c.args.request.now) t) (shown_operation c.in-Some.operation) c.in_ok-level.level
      (from_body stage s late) (from_body stage mid late) late
      (sym c.find_operation.ensures ∙ ap (option_map shown_operation) c.in-Some.is) read.0 (sym c.allows.ensures ∙ c.if-not-allows.false) (same_from stage s mid late read.1)
      (c.operate.ensures.comes honest t (subst (λ x. g.B.RequestBody.is_body c.args.body x t) (sym read.1) is));
  answers = c.operate.ensures.answers;
  carries = λ whole. c.operate.ensures.carries (not_sizing (ask_of c.args.request.now) (shown_operation c.in-Some.operation) (sym c.find_operation.ensures ∙ ap (option_map shown_operation) c.in-Some.is) whole);
  spends = spends_after c.operate.result (g.K.Keeper.kept c.args.keeper.now) _ _ c.requires c.operate.ensures.spends;
  honest = λ honest. c.in_ok-level.ensures.honest (c.operate.ensures.honest honest);
}
