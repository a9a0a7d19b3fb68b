use Rattle.std.proofs.Common.{◌∙◌, List, map, arith, ap, subst}
use Rattle.std.proofs.lemmas.List.{take_all}
use Rattle.std.proofs.lemmas.Result.{IfOk-from_err}
use Rattle.clap.specs.Simple.{app_of_fields}
use Rattle.command_line.specs.CommandLine.{IsSub, subcommand}
use Rattle.command_line.specs.declared.options.SubOption.{SubOption}
use Rattle.command_line.specs.Options.{rule_shown}
use Rattle.command_line.proofs.CommandLemmas.{option_added}
use Rattle.command_line.proofs.grammar.with_options.Goals as goal

pub loop-option-init : goal.loop-option-init
loop-option-init c = ap app_of_fields c.about-command.ensures ∙ c.new.ensures.app

pub loop-option-preserved : goal.loop-option-preserved
loop-option-preserved c =
    option_added c.args.word.now c.args.options.now c.loop-option.option-index _ _ _ _ c.loop-option-test.true
    c.loop-option.invariant c.argument.ensures c.in_ok-command.ensures

pub returns-in_err-command : goal.returns-in_err-command
returns-in_err-command c = IfOk-from_err c.from_residual.result _ c.from_residual.ensures.0

pub returns : goal.returns
returns c =
    subst (λ (options : List SubOption). IsSub (subcommand c.args.word.now (map rule_shown options)) c.loop-option.command)
    (take_all c.loop-option.option-index c.args.options.now (omega arith)) c.loop-option.invariant
