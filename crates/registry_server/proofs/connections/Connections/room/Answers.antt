use Rattle.std.proofs.Common.{Option, ap, ◌∙◌}
use Rattle.registry_conversation.specs.Shown.{Shown}
use Rattle.registry_server.specs.Room.{room_in}
use Rattle.registry_server.specs.Showing.{connected}
use Rattle.registry_server.proofs.connections.Connections.room.Goals as goal

pub returns-in-Some : goal.returns-in-Some
returns-in-Some c =
    let u = connected c.args.self.now in
    c.room_of.ensures ∙ ap (λ (o : Option Shown). room_in o u) c.in-Some.ensures.shown

pub returns-in-None : goal.returns-in-None
returns-in-None c = ap (λ (o : Option Shown). room_in o (connected c.args.self.now)) c.in-None.ensures.shown
