use Rattle.std.proofs.Common.{Some, ap, ◌∙◌}
use Rattle.registry_conversation.specs.declared.receiver.Receiver.{Receiver}
use Rattle.registry_conversation.specs.Receiving.{received}
use Rattle.registry_server.specs.Open.{going_in}
use Rattle.registry_server.proofs.connections.Connections.outgoing.Goals as goal

pub returns-in-Some : goal.returns-in-Some
returns-in-Some c = c.outgoing.ensures ∙ ap (λ (v : Receiver). going_in (Some (received v))) c.deref.ensures ∙ ap going_in c.in-Some.ensures.shown
