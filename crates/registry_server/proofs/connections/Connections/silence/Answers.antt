use Rattle.std.proofs.Common.{ap, ◌∙◌}
use Rattle.registry_server.specs.Lives.{silence_in}
use Rattle.registry_server.proofs.connections.Connections.silence.Goals as goal

pub returns-in-Some : goal.returns-in-Some
returns-in-Some c = c.saturating_sub.ensures ∙ ap (silence_in c.args.self.now.time) c.in-Some.ensures.life

pub returns-in-None : goal.returns-in-None
returns-in-None c = ap (silence_in c.args.self.now.time) c.in-None.ensures.life
