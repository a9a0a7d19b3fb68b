use Rattle.std.proofs.Common.{refl}
use Rattle.std.proofs.lemmas.Result.{IfOk-at_ok, IfOk-weaker}
use Rattle.command_line.specs.CommandLine.{IsApp, IsSub, alone}
use Rattle.command_line.specs.Subcommands.{sub_shown}
use Rattle.command_line.proofs.CommandLemmas.{sub_added}
use Rattle.command_line.proofs.grammar.with.Goals as goal

pub returns : goal.returns
returns c app is =
    let sub = sub_shown c.args.sub.now in
    let taken = c.in_ok-command.ensures in
    let old = IfOk-at_ok (IsApp app) taken.0 is in
    let below = IfOk-at_ok (IsSub sub) taken.1 c.with_options-made.ensures in
    IfOk-weaker c.subcommand.result _ _ (λ r. sub_added app (alone sub) c.in_ok-command.command r c.in_ok-command.made old below refl) c.subcommand.ensures
