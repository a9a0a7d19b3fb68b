use Rattle.std.proofs.Common.{◌∙◌, refl, sym}
use Rattle.std.proofs.lemmas.Result.{IfOk-from_err}
use Rattle.registry_server.proofs.CallLemmas.{leads_none}
use Rattle.registry_loop.proofs.RoundLemmas.{no_round, another_round, ends_rounds}
use Rattle.registry_loop.proofs.crowd.Crowd.serve_rounds.Goals as goal

pub loop-init : goal.loop-init
loop-init g c = record { rounds = λ honest. (honest, no_round _ _ _); limits = refl }

pub loop-preserved : goal.loop-preserved
loop-preserved g c = record {
  rounds = λ honest.
      let so = c.loop.invariant.rounds (c.serve_round.ensures.honest honest) in
      (so.0, another_round _ _ _ _ _ _ _ _ _ so.1 (c.in_ok-serve_round.ensures.round honest));
  limits = c.serve_round.ensures.limits ∙ c.loop.invariant.limits;
}

pub returns-then-spent : goal.returns-then-spent
returns-then-spent g c = record {
  honest = λ honest. (c.loop.invariant.rounds honest).0;
  serves = λ honest. ends_rounds _ _ _ _ _ _ _ _ (c.loop.invariant.rounds honest).1 (c.leave.ensures (g.K.Keeper.kept c.loop.service));
  none = c.leave-then-spent.ensures.none;
  limits = c.loop.invariant.limits;
  spent = λ over. sym c.spent.ensures ∙ c.if-spent.true;
}

pub returns-then-has_ended : goal.returns-then-has_ended
returns-then-has_ended g c = record {
  honest = λ honest. (c.loop.invariant.rounds honest).0;
  serves = λ honest. ends_rounds _ _ _ _ _ _ _ _ (c.loop.invariant.rounds honest).1 (leads_none _ _);
  none = c.leave-then-has_ended.ensures.none;
  limits = c.loop.invariant.limits;
  spent = λ over. absurd (let x = over in cc);
}

pub returns-in_err-serve_round : goal.returns-in_err-serve_round
returns-in_err-serve_round g c = record {
  honest = λ honest. (c.loop.invariant.rounds (c.serve_round.ensures.honest honest)).0;
  serves = λ honest.
      let so = c.loop.invariant.rounds (c.serve_round.ensures.honest honest) in
      let failed = c.in_err-serve_round.ensures.failed honest in
      ends_rounds _ _ _ _ _ _ _ _ so.1 failed.0;
  none = IfOk-from_err c.from_residual.result _ c.from_residual.ensures.0;
  limits = c.serve_round.ensures.limits ∙ c.loop.invariant.limits;
  spent = IfOk-from_err c.from_residual.result _ c.from_residual.ensures.0;
}

pub returns : goal.returns
returns g c = record {
  honest = λ honest. (c.loop.invariant.rounds honest).0;
  serves = λ honest. ends_rounds _ _ _ _ _ _ _ _ (c.loop.invariant.rounds honest).1 (leads_none _ _);
  none = c.leave-2.ensures.none;
  limits = c.loop.invariant.limits;
  spent = λ over. absurd (let x = over in cc);
}
