use Rattle.std.proofs.Common.{◌≡◌, true, false}
use Rattle.order_sockets.proofs.caller.Caller.tell.Given as goal

abbrev pub invariant-loop : goal.invariant-loop
invariant-loop l = record {
  heard : l.self.heard ≡ l.fn.self.heard;
  answered : l.self.answered ≡ l.fn.self.answered;
  answer : l.self.answer ≡ l.fn.self.answer;
  stops : l.self.stops ≡ l.fn.self.stops;
  over : l.fn.self.over ≡ true → l.self.over ≡ true;
  unsaid : l.fn.self.answered ≡ false → l.self.over ≡ l.fn.self.over;
}
