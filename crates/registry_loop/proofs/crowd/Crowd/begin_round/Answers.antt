use Rattle.std.proofs.Common.{◌∙◌, refl}
use Rattle.registry_server.proofs.CallLemmas.{carries_none, carries_then, carries_same}
use Rattle.registry_loop.proofs.crowd.Crowd.begin_round.Goals as goal

pub returns : goal.returns
returns g c = record {
  leads = carries_then _ _ _ (carries_same _ _ c.look_at_clock.ensures.same) c.accept_all.ensures.leads;
  limits = c.accept_all.ensures.limits ∙ c.look_at_clock.ensures.limits;
  callers = c.accept_all.ensures.callers ∙ c.look_at_clock.ensures.callers ∙ c.wait.ensures;
}

pub returns-in_err-wait : goal.returns-in_err-wait
returns-in_err-wait g c = record { leads = carries_none _; limits = refl; callers = c.wait.ensures }
