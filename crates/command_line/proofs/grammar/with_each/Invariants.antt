use Rattle.std.proofs.Common.{IfOk, take, map}
use Rattle.command_line.specs.CommandLine.{IsApp, program}
use Rattle.command_line.specs.Subcommands.{sub_shown, with_all}
use Rattle.command_line.proofs.grammar.with_each.Given as goal

-- it has the subcommands so far
abbrev pub invariant-loop-sub : goal.invariant-loop-sub
invariant-loop-sub l = IfOk l.command (IsApp (with_all program (map sub_shown (take l.sub-index l.subs))))
