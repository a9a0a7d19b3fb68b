use Rattle.std.proofs.Common.{◌∙◌, ap}
use Rattle.serde_json.specs.Data.{string}
use Rattle.order_texts.proofs.TextLemmas.{value_more}
use Rattle.order_texts.proofs.objects.digest_values.Goals as goal

pub loop-digest-preserved : goal.loop-digest-preserved
loop-digest-preserved c =
    value_more string c.args.digests.now c.loop-digest.digest-index c.digest-item.result _ _ _ c.loop-digest-test.true c.digest-item.is
    c.loop-digest.invariant c.in_ok-push.ensures.items (c.in_ok-try_from_str.ensures ∙ ap string c.as_str.ensures.text)
