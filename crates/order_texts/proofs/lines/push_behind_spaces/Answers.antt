use Rattle.order_texts.proofs.TextLemmas.{digest_more}
use Rattle.order_texts.proofs.lines.push_behind_spaces.Goals as goal

pub loop-digest-preserved : goal.loop-digest-preserved
loop-digest-preserved c =
    digest_more c.args.digests.now c.loop-digest.digest-index c.digest-item.result _ _ _ _ _ c.loop-digest-test.true c.digest-item.is
    c.as_str.ensures.text c.loop-digest.invariant c.in_ok-push_str.ensures.bytes c.in_ok-push_str-2.ensures.bytes
