use Rattle.std.proofs.Common.{◌≡◌, Some, rules}
use Rattle.clap.specs.declared.builder.ValueParser.TheVariants.{Unsigned}
use Rattle.command_line.proofs.CommandLemmas.{within_rule}
use Rattle.command_line.proofs.arguments.within.Goals as goal

pub returns : goal.returns
returns c rule has =
    let parser : c.value_parser.result.value_parser ≡ Some (Unsigned c.args.least c.args.most) = search rules in
    within_rule c.args.least c.args.most rule c.args.option c.value_parser.result has c.value_parser.ensures.others parser
