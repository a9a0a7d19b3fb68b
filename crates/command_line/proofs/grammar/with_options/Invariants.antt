use Rattle.std.proofs.Common.{take, map}
use Rattle.command_line.specs.CommandLine.{IsSub, subcommand}
use Rattle.command_line.specs.Options.{rule_shown}
use Rattle.command_line.proofs.grammar.with_options.Given as goal

-- it has the options so far
abbrev pub invariant-loop-option : goal.invariant-loop-option
invariant-loop-option l = IsSub (subcommand l.fn.word (map rule_shown (take l.option-index l.options))) l.command
