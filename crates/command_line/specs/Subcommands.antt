-- The subcommands, as the table has them.
use Rattle.std.specs.Prelude.{List, [], ◌∷◌, map}
use Rattle.clap.specs.Words.{App, Shape, with_subcommand}
use Rattle.command_line.specs.declared.subcommands.Subcommand.{Subcommand}
use Rattle.command_line.specs.CommandLine.{subcommand}
use Rattle.command_line.specs.Options.{rule_shown}

abbrev pub sub_shown : Subcommand → Shape
sub_shown s = subcommand s.word.now (map rule_shown s.options.now)

-- one after the other
abbrev pub with_all : App → List Shape → App
with_all app [] = app
with_all app (sub ∷ others) = with_all (with_subcommand app sub) others
