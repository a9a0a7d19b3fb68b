use Rattle.std.proofs.Common.{◌≡◌}
use Rattle.order_sockets.specs.Calls.{all_called}
use Rattle.registry_sockets.proofs.sockets.Sockets.note_events.Given as goal

abbrev pub invariant-loop-event : goal.invariant-loop-event
invariant-loop-event l = all_called l.callers.callers.items ≡ all_called l.fn.callers.callers.items
