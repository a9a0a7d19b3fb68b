use Rattle.std.proofs.Common.{ap}
use Rattle.command_line.specs.CommandLine as spec
use Rattle.command_line.proofs.CommandLemmas.{required_rule}
use Rattle.command_line.proofs.arguments.argument.Goals as goal

pub returns-in-Nothing : goal.returns-in-Nothing
returns-in-Nothing c = rw c.in-Nothing.is c.flag.ensures

pub returns-in-One : goal.returns-in-One
returns-in-One c = rw c.in-One.is c.option.ensures

pub returns-in-Required : goal.returns-in-Required
returns-in-Required c =
    rw c.in-Required.is (required_rule (spec.option c.args.given.now.word.now) c.option-in-Required.result c.required.result c.option-in-Required.ensures c.required.ensures)

pub returns-in-Number : goal.returns-in-Number
returns-in-Number c =
    rw c.in-Number.is (c.within.ensures (spec.required (spec.option c.args.given.now.word.now))
    (required_rule (spec.option c.args.given.now.word.now) c.option-in-Number.result c.required-wanted.result c.option-in-Number.ensures c.required-wanted.ensures))

pub returns-in-NumberOr : goal.returns-in-NumberOr
returns-in-NumberOr c =
    let less = c.within-in-NumberOr.ensures (spec.option c.args.given.now.word.now) c.option-in-NumberOr.ensures in
    rw (c.in-NumberOr.is, c.default_value.ensures) (ap (spec.with_default c.in-NumberOr.default.now) less.0, less.1)

pub returns-in-NumberIf : goal.returns-in-NumberIf
returns-in-NumberIf c =
    rw c.in-NumberIf.is (c.within-in-NumberIf.ensures (spec.option c.args.given.now.word.now) c.option-in-NumberIf.ensures)
