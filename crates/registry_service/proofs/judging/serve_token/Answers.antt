use Rattle.std.proofs.Common.{◌∙◌, Ok, refl, sym, ap, subst}
use Rattle.registry_model.specs.World.{repo_at}
use Rattle.registry_model.specs.Ask.{ask_of, text_in}
use Rattle.registry_model.specs.Operation.{addressed}
use Rattle.registry_model.specs.Judging.{changed, decision, unnamed}
use Rattle.registry_model.specs.Answer.{answer_of}
use Rattle.registry_model.specs.Keeping.{goes_on}
use Rattle.operation_parts.proofs.RepoOutcomes.{spends_after}
use Rattle.registry_service.specs.Bodies.{from_body, ask_with}
use Rattle.registry_service.proofs.BodyLemmas.{to_each, same_from, any_from}
use Rattle.registry_service.proofs.JudgingLemmas.{gave_up}
use Rattle.registry_service.proofs.ResourceLemmas.{told_if}
use Rattle.registry_service.proofs.ServingLemmas.{served_by, on_none}
use Rattle.registry_service.proofs.TokenLemmas.{unknown, known_served}
use Rattle.registry_service.proofs.judging.serve_token.Goals as goal

pub returns-in_err-known : goal.returns-in_err-known
returns-in_err-known g c =
    let s = g.K.Keeper.kept c.args.keeper.now in
    let q = ask_of c.args.request.now in
    to_each (g.B.RequestBody.stage c.args.body) _ c.from_residual.result (addressed q.form)
    (λ t. decision (s.world.grants c.args.token.now) (repo_at s.world) (ask_with q t)) _ s _ _ _
    (λ t. gave_up _ c.from_residual.result c.in_err-known.field-0.0 _ _ _ _ _ _ _ c.from_residual.ensures c.in_err-known.ensures)

pub returns-then-not-branch : goal.returns-then-not-branch
returns-then-not-branch g c =
    let s = g.K.Keeper.kept c.args.keeper.now in
    let q = ask_of c.args.request.now in
    let asked = c.in_ok-known.ensures in
    to_each (g.B.RequestBody.stage c.args.body) _ c.ask_for_token.result (addressed q.form)
    (λ t. decision (s.world.grants c.args.token.now) (repo_at s.world) (ask_with q t)) _ s _ _ _
    (λ t. told_if c.ask_for_token.result (unnamed q).reply (addressed q.form) (decision (s.world.grants c.args.token.now) (repo_at s.world) (ask_with q t))
    _ s _ _ _ c.ask_for_token.ensures.asks refl refl asked.spends.0 asked.spends.1 (λ honest. (asked.found honest).1) asked.honest
    (λ honest. unknown (s.world.grants c.args.token.now) (repo_at s.world) (ask_with q t) (sym (asked.found honest).0 ∙ c.if-not-branch.true)))

pub decide-requires : goal.decide-requires
decide-requires g c = c.in_ok-known.ensures.spends.1

pub returns-in-Some : goal.returns-in-Some
returns-in-Some g c = record {
  comes = λ honest t is.
      let stage = g.B.RequestBody.stage c.args.body in
      let q = ask_with (ask_of c.args.request.now) t in
      let s = g.K.Keeper.kept c.args.keeper.now in
      let mid = g.K.Keeper.kept c.known.new.self in
      let late = g.K.Keeper.kept c.decide.new.keeper in
      let asked = c.in_ok-known.ensures.found (c.decide.ensures.honest honest) in
      known_served c.decide.result c.args.token.now q (from_body stage s late) (from_body stage mid late) late (same_from stage s mid late asked.1) (sym asked.0 ∙ c.if-not-branch.false)
      (served_by c.decide.result q (from_body stage mid late) late c.args.token.now c.in-Some.name.now (sym c.name_at.ensures ∙ ap text_in c.in-Some.is)
      (c.decide.ensures.comes honest t (subst (λ x. g.B.RequestBody.is_body c.args.body x t) (sym asked.1) is)));
  answers = c.decide.ensures.answers;
  carries = c.decide.ensures.carries;
  spends = spends_after c.decide.result (g.K.Keeper.kept c.args.keeper.now) _ _ c.requires c.decide.ensures.spends;
  honest = λ honest. c.in_ok-known.ensures.honest (c.decide.ensures.honest honest);
}

pub returns-in-None-clause-comes : goal.returns-in-None-clause-comes
returns-in-None-clause-comes g c honest t is =
    let first = g.K.Keeper.kept c.args.keeper.now in
    let s = g.K.Keeper.kept c.known.new.self in
    let q = ask_with (ask_of c.args.request.now) t in
    let asked = c.in_ok-known.ensures.found honest in
    let k = on_none (s.world.grants c.args.token.now) (repo_at s.world) q q.form (sym c.name_at.ensures ∙ ap text_in c.in-None.is) in
    let d = decision (first.world.grants c.args.token.now) (repo_at first.world) q in
    any_from (g.B.RequestBody.stage c.args.body) answer_of (Ok c.reply_beside.result) d.reply (changed first.world (addressed q.form) d.change) first s
    (known_served (Ok c.reply_beside.result) c.args.token.now q first s s asked.1 (sym asked.0 ∙ c.if-not-branch.false) (
      c.reply_beside.ensures.told ∙ ap (λ d. d.reply) (sym k.0),
      (λ i. record { world = s.world; spent = c.in_ok-known.ensures.spends.1 i; held = s.held })
          ∙ ap (λ o. goes_on s (changed s.world (addressed q.form) o)) (sym (ap (λ d. d.change) k.0 ∙ k.1)),
    ))
