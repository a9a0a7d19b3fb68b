use Rattle.std.proofs.Common.{◌∙◌}
use Rattle.registry_sockets.proofs.sockets.Sockets.note_events.Goals as goal

pub loop-event-preserved : goal.loop-event-preserved
loop-event-preserved c = c.note.ensures.same ∙ c.loop-event.invariant
