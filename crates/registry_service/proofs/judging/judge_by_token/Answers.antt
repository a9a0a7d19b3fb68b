use Rattle.std.proofs.Common.{◌∙◌, refl, sym, subst}
use Rattle.registry_model.specs.Ask.{ask_of}
use Rattle.registry_model.specs.Operation.{addressed}
use Rattle.registry_model.specs.Judging.{judged, unnamed}
use Rattle.operation_parts.specs.Operating.{ComesOn}
use Rattle.registry_service.specs.Bodies.{from_body, ask_with}
use Rattle.registry_service.proofs.BodyLemmas.{to_each, with_token_to}
use Rattle.registry_service.proofs.JudgingLemmas.{ran_out}
use Rattle.registry_service.proofs.ResourceLemmas.{told_if}
use Rattle.registry_service.proofs.TokenLemmas.{by_token, by_none, no_fault, not_both}
use Rattle.registry_service.proofs.judging.judge_by_token.Goals as goal

pub returns-in_err-token : goal.returns-in_err-token
returns-in_err-token g c =
    let s = g.K.Keeper.kept c.args.keeper.now in
    let q = ask_of c.args.request.now in
    with_token_to (g.B.RequestBody.stage c.args.body) _ c.from_residual.result (addressed q.form) (λ t. judged s.world q.token (ask_with q t)) _ s s _ _ _
    (to_each (g.B.RequestBody.stage c.args.body) _ c.from_residual.result (addressed q.form) (λ t. judged s.world q.token (ask_with q t)) _ s s _ _
    (λ t. ran_out c.from_residual.result c.in_err-token.field-0.0 _ _ _ s _ c.from_residual.ensures c.in_err-token.ensures.found c.requires))
    (λ none plain. absurd (no_fault _ _ (c.in_err-token.ensures.none none)))

pub serve_token-requires : goal.serve_token-requires
serve_token-requires g c = c.requires

pub returns-in-Some : goal.returns-in-Some
returns-in-Some g c = record {
  comes = λ honest t is.
      let s = g.K.Keeper.kept c.args.keeper.now in
      let late = g.K.Keeper.kept c.serve_token.new.keeper in
      let q = ask_with (ask_of c.args.request.now) t in
      subst (λ d. ComesOn c.serve_token.result (addressed q.form) d (from_body (g.B.RequestBody.stage c.args.body) s late) late)
      (sym (by_token s.world q.token c.in-Some.token q (sym c.in-Some.is ∙ c.in_ok-token.ensures.found))) (c.serve_token.ensures.comes honest t is);
  answers = c.serve_token.ensures.answers;
  carries = c.serve_token.ensures.carries;
  spends = c.serve_token.ensures.spends;
  no_token = λ none plain. absurd (not_both _ _ _ refl (c.in_ok-token.ensures.none none) c.in-Some.is);
  honest = c.serve_token.ensures.honest;
}

pub returns-in-None : goal.returns-in-None
returns-in-None g c =
    let s = g.K.Keeper.kept c.args.keeper.now in
    let q = ask_of c.args.request.now in
    with_token_to (g.B.RequestBody.stage c.args.body) _ c.ask_for_token.result (addressed q.form) (λ t. judged s.world q.token (ask_with q t)) _ s s _ _ _
    (to_each (g.B.RequestBody.stage c.args.body) _ c.ask_for_token.result (addressed q.form) (λ t. judged s.world q.token (ask_with q t)) _ s s _ _
    (λ t. told_if c.ask_for_token.result (unnamed q).reply (addressed q.form) (judged s.world q.token (ask_with q t))
    _ s s _ _ c.ask_for_token.ensures.asks refl refl c.requires c.requires (λ _. refl) (λ honest. honest)
    (λ honest. by_none s.world q.token (ask_with q t) (sym c.in-None.is ∙ c.in_ok-token.ensures.found))))
    (λ none plain. c.ask_for_token.ensures.plain plain)
