use Rattle.std.proofs.Common.{◌∙◌}
use Rattle.order_sockets.proofs.CallingLemmas.{set_called}
use Rattle.order_sockets.proofs.callers.note_each.Goals as goal

pub loop-caller-preserved : goal.loop-caller-preserved
loop-caller-preserved c =
    set_called c.loop-caller.caller-index c.loop-caller.callers c.caller-item.result c.note.new.self c.note.ensures ∙ c.loop-caller.invariant
