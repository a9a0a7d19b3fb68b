use Rattle.std.proofs.Common.{◌≡◌, ◌∙◌, sym, subst}
use Rattle.std.proofs.lemmas.Result.{IfOk-from_err}
use Rattle.order_sockets.proofs.CallingLemmas.{anyway_on_err}
use Rattle.registry_server.specs.Showing.{connected}
use Rattle.registry_server.specs.Events.{Leads}
use Rattle.registry_server.specs.Lives.{NoneSilent}
use Rattle.registry_server.proofs.CallLemmas.{leads_then, carries_then, carries_same}
use Rattle.order_sockets.specs.Calling.{AttendsRound}
use Rattle.order_sockets.specs.Calls.{all_called}
use Rattle.registry_loop.specs.Together.{most_silence}
use Rattle.registry_loop.proofs.crowd.Crowd.serve_round.Goals as goal

pub returns : goal.returns
returns g c =
    let stayed = c.carry_out.ensures.limits ∙ c.answer_all.ensures.limits ∙ c.begin_round.ensures.limits in
    let there = c.answer_all.ensures.callers ∙ c.begin_round.ensures.callers in
    let s = g.K.Keeper.kept c.args.service.now in
    let t = g.K.Keeper.kept c.answer_all.new.service in
    let r = g.K.Keeper.kept c.carry_out.new.service in
    record {
      honest = λ honest. c.answer_all.ensures.honest (c.carry_out.ensures.honest honest);
      round = λ honest. record {
        mid = connected c.answer_all.new.connections;
        before = t;
        behind = r;
        leads = leads_then _ s (connected c.hear_all.new.connections) s _ t (carries_then _ _ _ c.begin_round.ensures.leads c.hear_all.ensures s)
            (c.answer_all.ensures.leads (c.carry_out.ensures.honest honest));
        attends = subst (λ l. AttendsRound l (all_called c.end_round.new.self.callers.callers.items) t r) there
            (subst (λ l. AttendsRound (all_called c.answer_all.new.self.callers.callers.items) l t r) (sym c.end_round.ensures.callers) (c.carry_out.ensures.attends honest));
        goes_on = carries_then _ _ _ (carries_same _ _ c.carry_out.ensures.same) c.end_round.ensures.leads r;
      };
      failed = λ honest. tt;
      limits = c.end_round.ensures.limits ∙ stayed;
      none = subst (λ l. NoneSilent (most_silence l) c.end_round.new.connections) stayed c.end_round.ensures.none;
    }

pub returns-in_err-begin_round : goal.returns-in_err-begin_round
returns-in_err-begin_round g c = record {
  honest = λ honest. honest;
  round = λ honest. IfOk-from_err c.from_residual.result _ c.from_residual.ensures.0;
  failed = λ honest.
      let s = g.K.Keeper.kept c.args.service.now in
      let both : Leads (connected c.args.connections.now) s (connected c.begin_round.new.connections) s
      × (all_called c.begin_round.new.self.callers.callers.items ≡ all_called c.args.self.now.callers.callers.items) =
      (c.begin_round.ensures.leads s, c.begin_round.ensures.callers) in
      anyway_on_err _ _ both;
  limits = c.begin_round.ensures.limits;
  none = IfOk-from_err c.from_residual.result _ c.from_residual.ensures.0;
}
