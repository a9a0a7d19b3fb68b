use Rattle.std.proofs.Common.{◌∙◌, Ok, sym}
use Rattle.std.proofs.lemmas.Bool.{true≢false}
use Rattle.registry_model.specs.declared.request.Resource.TheVariants.{Registry, Tokens, Health}
use Rattle.registry_model.specs.Ask.{ask_of}
use Rattle.registry_model.specs.Operation.{addressed}
use Rattle.registry_model.specs.Answer.{answer_of}
use Rattle.registry_model.specs.Judging.{reply_to, after_request}
use Rattle.registry_service.specs.Bodies.{from_body, ask_with}
use Rattle.registry_service.proofs.BodyLemmas.{any_from}
use Rattle.registry_service.proofs.ResourceLemmas.{at_resource, told_login, told_health}
use Rattle.registry_service.proofs.judging.judge.Goals as goal

pub returns-then-spent : goal.returns-then-spent
returns-then-spent g c = record {
  comes = λ honest t is. tt;
  answers = tt;
  carries = λ whole. tt;
  spends = sym c.spent.ensures ∙ c.if-spent.true;
  no_token = λ none registry plain unspent. absurd (true≢false (sym c.if-spent.true ∙ c.spent.ensures ∙ unspent));
  honest = λ honest. honest;
}

pub judge_by_token-requires : goal.judge_by_token-requires
judge_by_token-requires g c = sym c.spent.ensures ∙ c.if-spent.false

pub returns-in-Registry : goal.returns-in-Registry
returns-in-Registry g c =
    let q = ask_of c.args.request.now in
    let s = g.K.Keeper.kept c.args.keeper.now in
    let h = c.judge_by_token.ensures in
    record {
      comes = λ honest t is.
          let late = g.K.Keeper.kept c.judge_by_token.new.keeper in
          at_resource c.judge_by_token.result (ask_with q t) Registry (from_body (g.B.RequestBody.stage c.args.body) s late) late c.in-Registry.is (h.comes honest t is);
      answers = h.answers;
      carries = h.carries;
      spends = h.spends;
      no_token = λ none registry plain unspent. h.no_token none plain;
      honest = h.honest;
    }

pub returns-in-Tokens : goal.returns-in-Tokens
returns-in-Tokens g c =
    let q = ask_of c.args.request.now in
    let s = g.K.Keeper.kept c.args.keeper.now in
    let h = told_login c.log_in.result q.verb q.basic (addressed q.form) _ s _ c.log_in.ensures (sym c.spent.ensures ∙ c.if-spent.false) in
    record {
      comes = λ honest t is.
          any_from (g.B.RequestBody.stage c.args.body) answer_of c.log_in.result (reply_to s.world (ask_with q t)) (after_request s.world (ask_with q t)) s s
          (at_resource c.log_in.result (ask_with q t) Tokens s s c.in-Tokens.is (h.comes honest));
      answers = h.answers;
      carries = h.carries;
      spends = h.spends;
      no_token = λ none registry plain unspent. absurd (let e = sym registry ∙ c.in-Tokens.is in cc);
      honest = λ honest. honest;
    }

pub returns-in-Health : goal.returns-in-Health
returns-in-Health g c =
    let q = ask_of c.args.request.now in
    let s = g.K.Keeper.kept c.args.keeper.now in
    let h = told_health c.tell_health.result q.verb (addressed q.form) _ s _ c.tell_health.ensures (sym c.spent.ensures ∙ c.if-spent.false) in
    record {
      comes = λ honest t is.
          any_from (g.B.RequestBody.stage c.args.body) answer_of (Ok c.tell_health.result) (reply_to s.world (ask_with q t)) (after_request s.world (ask_with q t)) s s
          (at_resource (Ok c.tell_health.result) (ask_with q t) Health s s c.in-Health.is (h.comes honest));
      answers = h.answers;
      carries = h.carries;
      spends = h.spends;
      no_token = λ none registry plain unspent. absurd (let e = sym registry ∙ c.in-Health.is in cc);
      honest = λ honest. honest;
    }
