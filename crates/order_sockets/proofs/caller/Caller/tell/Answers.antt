use Rattle.order_sockets.proofs.caller.Caller.tell.Goals as goal

pub returns-then-not-self : goal.returns-then-not-self
returns-then-not-self c = record {
  heard = c.loop.invariant.heard;
  answered = c.loop.invariant.answered;
  answer = c.loop.invariant.answer;
  stops = c.loop.invariant.stops;
  over = c.loop.invariant.over;
  unsaid = c.loop.invariant.unsaid;
}

pub returns : goal.returns
returns c = record {
  heard = c.loop.invariant.heard;
  answered = c.loop.invariant.answered;
  answer = c.loop.invariant.answer;
  stops = c.loop.invariant.stops;
  over = c.loop.invariant.over;
  unsaid = c.loop.invariant.unsaid;
}
