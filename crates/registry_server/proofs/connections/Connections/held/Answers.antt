use Rattle.std.proofs.Common.{Some, ap, ◌∙◌}
use Rattle.registry_conversation.specs.declared.receiver.Receiver.{Receiver}
use Rattle.registry_conversation.specs.Receiving.{received}
use Rattle.registry_server.specs.Open.{held_in}
use Rattle.registry_server.proofs.connections.Connections.held.Goals as goal

pub returns-in-Some : goal.returns-in-Some
returns-in-Some c = c.held.ensures ∙ ap (λ (v : Receiver). held_in (Some (received v))) c.deref.ensures ∙ ap held_in c.in-Some.ensures.shown

pub returns-in-None : goal.returns-in-None
returns-in-None c = ap held_in c.in-None.ensures.shown
