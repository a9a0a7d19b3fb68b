use Rattle.std.proofs.Common.{◌≡◌, length}
use Rattle.order_sockets.proofs.callers.Callers.leave.Given as goal

abbrev pub invariant-loop-caller : goal.invariant-loop-caller
invariant-loop-caller l = l.self.stopping ≡ l.fn.self.stopping

abbrev pub decreases-loop-caller : goal.decreases-loop-caller
decreases-loop-caller l = length l.self.callers.items
