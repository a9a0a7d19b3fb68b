use Rattle.std.proofs.Common.{◌≡◌}
use Rattle.order_sockets.specs.Calls.{all_called}
use Rattle.order_sockets.proofs.callers.note_each.Given as goal

abbrev pub invariant-loop-caller : goal.invariant-loop-caller
invariant-loop-caller l = all_called l.callers ≡ all_called l.fn.callers
