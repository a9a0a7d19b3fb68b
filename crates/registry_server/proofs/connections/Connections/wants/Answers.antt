use Rattle.std.proofs.Common.{ap, Some, ◌∙◌}
use Rattle.std.specs.Prelude.{option_map}
use Rattle.registry_conversation.specs.declared.receiver.Receiver.{Receiver}
use Rattle.registry_conversation.specs.Receiving.{received}
use Rattle.registry_conversation.specs.Shown.{wants_of}
use Rattle.registry_server.proofs.connections.Connections.wants.Goals as goal

pub returns-in-Some : goal.returns-in-Some
returns-in-Some c = ap Some c.wants.ensures ∙ ap (λ (v : Receiver). Some (wants_of (received v))) c.deref.ensures ∙ ap (option_map wants_of) c.in-Some.ensures.shown

pub returns-in-None : goal.returns-in-None
returns-in-None c = ap (option_map wants_of) c.in-None.ensures.shown
