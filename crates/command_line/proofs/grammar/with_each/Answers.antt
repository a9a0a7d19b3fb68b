use Rattle.command_line.proofs.CommandLemmas.{sub_more}
use Rattle.command_line.proofs.grammar.with_each.Goals as goal

pub loop-sub-init : goal.loop-sub-init
loop-sub-init c = c.program-command.ensures

pub loop-sub-preserved : goal.loop-sub-preserved
loop-sub-preserved c =
    sub_more c.args.subs.now c.loop-sub.sub-index _ _ _ c.loop-sub-test.true c.loop-sub.invariant c.with-command.ensures
