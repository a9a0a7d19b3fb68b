use Rattle.order_texts.proofs.TextLemmas.{line_more}
use Rattle.order_texts.proofs.lines.as_lines.Goals as goal

pub loop-item-preserved : goal.loop-item-preserved
loop-item-preserved c =
    line_more c.args.items.now c.loop-item.item-index c.item-item.result _ _ _ c.loop-item-test.true c.item-item.is
    c.loop-item.invariant c.in_ok-push_item.ensures c.in_ok-push_str.ensures.bytes
