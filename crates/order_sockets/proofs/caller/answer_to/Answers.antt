use Rattle.std.proofs.Common.{◌≡◌, ◌∙◌, true≢false, inl, refl, sym}
use Rattle.order_sockets.proofs.CallingLemmas.{anyway_on_err}
use Rattle.order_sockets.proofs.caller.answer_to.Goals as goal

pub returns : goal.returns
returns g c = record {
  honest = c.answer_line.ensures.honest;
  same = λ is. absurd (true≢false (sym (c.is_stop.ensures.1 is) ∙ c.if-is_stop.false));
  stops = λ is. absurd (true≢false (sym (c.is_stop.ensures.1 is) ∙ c.if-is_stop.false));
  steps = c.answer_line.ensures.steps;
  answers = λ honest other. c.answer_line.ensures.answers honest;
  unsaid = c.answer_line.ensures.unsaid;
}

pub returns-then-is_stop : goal.returns-then-is_stop
returns-then-is_stop g c = record {
  honest = λ honest. honest;
  same = λ is. refl;
  stops = λ is. c.write_stopping.ensures;
  steps = λ honest. inl refl;
  answers = λ honest other. absurd (other (c.is_stop.ensures.0 c.if-is_stop.true));
  unsaid = λ honest. anyway_on_err (g.K.Keeper.kept c.args.service.now ≡ g.K.Keeper.kept c.args.service.now) c.write_stopping.result refl;
}
