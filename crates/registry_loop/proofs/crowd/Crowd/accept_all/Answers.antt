use Rattle.std.proofs.Common.{◌∙◌, refl}
use Rattle.registry_server.proofs.CallLemmas.{carries_none, carries_then}
use Rattle.registry_loop.proofs.crowd.Crowd.accept_all.Goals as goal

pub loop-init : goal.loop-init
loop-init g c = record { leads = carries_none _; limits = refl; callers = refl }

pub loop-preserved : goal.loop-preserved
loop-preserved g c = record {
  leads = carries_then _ _ _ c.loop.invariant.leads c.accept_next.ensures.leads;
  limits = c.accept_next.ensures.limits ∙ c.loop.invariant.limits;
  callers = c.accept_next.ensures.callers ∙ c.loop.invariant.callers;
}

pub returns-in_err-accept_next : goal.returns-in_err-accept_next
returns-in_err-accept_next g c = record {
  leads = carries_then _ _ _ c.loop.invariant.leads c.accept_next.ensures.leads;
  limits = c.accept_next.ensures.limits ∙ c.loop.invariant.limits;
  callers = c.accept_next.ensures.callers ∙ c.loop.invariant.callers;
}

pub returns-then-not-branch : goal.returns-then-not-branch
returns-then-not-branch g c = record {
  leads = carries_then _ _ _ c.loop.invariant.leads c.accept_next.ensures.leads;
  limits = c.accept_next.ensures.limits ∙ c.loop.invariant.limits;
  callers = c.accept_next.ensures.callers ∙ c.loop.invariant.callers;
}
