use Rattle.std.proofs.Common.{◌≡◌, false}
use Rattle.order_sockets.proofs.caller.Caller.hear.Given as goal

abbrev pub invariant-loop : goal.invariant-loop
invariant-loop l = record {
  answered : l.self.answered ≡ l.fn.self.answered;
  answer : l.self.answer ≡ l.fn.self.answer;
  stops : l.self.stops ≡ l.fn.self.stops;
  first : l.fn.self.answered ≡ false;
}
