use Rattle.command_line.proofs.grammar.command.Goals as goal

pub returns : goal.returns
returns c = c.with_each.ensures
