use Rattle.std.proofs.Common.{refl}
use Rattle.registry_server.specs.Showing.{connected}
use Rattle.registry_server.proofs.CallLemmas.{leads_none, leads_then, carries_then, carries_same}
use Rattle.registry_loop.proofs.crowd.Crowd.answer_one.Goals as goal

pub returns-then-spent : goal.returns-then-spent
returns-then-spent g c = record {
  honest = λ honest. honest;
  leads = λ honest. leads_none (connected c.args.connections.now) (g.K.Keeper.kept c.args.service.now);
  limits = refl;
  callers = refl;
}

pub returns-in-Some : goal.returns-in-Some
returns-in-Some g c = record {
  honest = c.turn.ensures.honest;
  leads = λ honest.
      let t = g.K.Keeper.kept c.turn.new.service in
      let noted = carries_same _ _ c.note_work.ensures.same in
      let told = carries_then _ _ _ noted c.tell_of.ensures in
      leads_then _ _ (connected c.turn.new.self) t _ t (c.turn.ensures.leads honest) (told t);
  limits = c.note_work.ensures.limits;
  callers = c.note_work.ensures.callers;
}

pub returns-in-None : goal.returns-in-None
returns-in-None g c = record { honest = c.turn.ensures.honest; leads = c.turn.ensures.leads; limits = refl; callers = refl }
