use Rattle.std.proofs.Common.{◌∙◌, true≢false, refl, sym}
use Rattle.order_sockets.proofs.caller.Caller.hear.Goals as goal

pub returns-then-self : goal.returns-then-self
returns-then-self c = record { answered = refl; answer = refl; stops = refl; before = λ before. refl }

pub returns-then-is_some : goal.returns-then-is_some
returns-then-is_some c = record {
  answered = c.loop.invariant.answered;
  answer = c.loop.invariant.answer;
  stops = c.loop.invariant.stops;
  before = λ before. absurd (true≢false (sym before ∙ c.loop.invariant.first));
}

pub returns : goal.returns
returns c = record {
  answered = c.loop.invariant.answered;
  answer = c.loop.invariant.answer;
  stops = c.loop.invariant.stops;
  before = λ before. absurd (true≢false (sym before ∙ c.loop.invariant.first));
}
