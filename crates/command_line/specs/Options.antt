-- The rule of an option, as the tables have it.
use Rattle.clap.specs.Words.{Rule, Text}
use Rattle.command_line.specs.CommandLine.{option, required, repeated, flag, within, with_default}
use Rattle.command_line.specs.declared.options.SubOption.{SubOption}
use Rattle.command_line.specs.declared.options.Takes.{Takes}
use Rattle.command_line.specs.declared.options.Takes.TheVariants.{Nothing, One, Required, Many}
use Rattle.command_line.specs.declared.options.Takes.TheVariants.{Number, NumberOr, NumberIf}

abbrev pub rule_taking : Takes → Text → Rule
rule_taking Nothing word = flag word
rule_taking (One value) word = option word
rule_taking (Required value) word = required (option word)
rule_taking (Many value) word = repeated word
rule_taking (Number value least most) word = within least most (required (option word))
rule_taking (NumberOr value least most default) word =
    with_default default.now (within least most (option word))
rule_taking (NumberIf value least most) word = within least most (option word)

abbrev pub rule_shown : SubOption → Rule
rule_shown o = rule_taking o.takes o.word.now
