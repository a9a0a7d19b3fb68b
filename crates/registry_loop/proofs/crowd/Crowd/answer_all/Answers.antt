use Rattle.std.proofs.Common.{◌∙◌, refl}
use Rattle.registry_server.specs.Showing.{connected}
use Rattle.registry_server.proofs.CallLemmas.{leads_then}
use Rattle.registry_loop.proofs.crowd.Crowd.answer_all.Goals as goal

pub loop-init : goal.loop-init
loop-init g c = record {
  leads = λ honest.
      let k = g.K.Keeper.kept c.let_go.new.service in (
        c.let_go.ensures.honest honest,
        leads_then _ _ (connected c.let_go.new.self) k _ k (c.let_go.ensures.leads honest) (c.stir_waiting.ensures.leads k),
      );
  limits = refl;
  callers = refl;
}

pub loop-preserved : goal.loop-preserved
loop-preserved g c = record {
  leads = λ honest.
      let before = c.loop.invariant.leads (c.answer_one-more.ensures.honest honest) in
      (before.0, leads_then _ _ (connected c.loop.connections) (g.K.Keeper.kept c.loop.service) _ _ before.1 (c.answer_one-more.ensures.leads honest));
  limits = c.answer_one-more.ensures.limits ∙ c.loop.invariant.limits;
  callers = c.answer_one-more.ensures.callers ∙ c.loop.invariant.callers;
}

pub returns-then-not-more : goal.returns-then-not-more
returns-then-not-more g c = record {
  honest = λ honest. (c.loop.invariant.leads (c.answer_one-more.ensures.honest honest)).0;
  leads = λ honest.
      let before = c.loop.invariant.leads (c.answer_one-more.ensures.honest honest) in
      leads_then _ _ (connected c.loop.connections) (g.K.Keeper.kept c.loop.service) _ _ before.1 (c.answer_one-more.ensures.leads honest);
  limits = c.answer_one-more.ensures.limits ∙ c.loop.invariant.limits;
  callers = c.answer_one-more.ensures.callers ∙ c.loop.invariant.callers;
}

pub returns : goal.returns
returns g c = record {
  honest = λ honest. (c.loop.invariant.leads honest).0;
  leads = λ honest. (c.loop.invariant.leads honest).1;
  limits = c.loop.invariant.limits;
  callers = c.loop.invariant.callers;
}
