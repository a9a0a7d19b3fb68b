use Rattle.std.proofs.Common.{arith}
use Rattle.order_texts.proofs.TextLemmas.{word_more, words_done}
use Rattle.order_texts.proofs.words.push_each.Goals as goal

pub loop-word-preserved : goal.loop-word-preserved
loop-word-preserved c =
    word_more c.args.words.now c.loop-word.word-index _ _ _ _ _ c.loop-word-test.true
    c.loop-word.invariant c.in_ok-push_str.ensures.bytes c.in_ok-push_str-2.ensures.bytes

pub returns : goal.returns
returns c = words_done c.args.words.now c.loop-word.word-index _ _ (omega arith) c.loop-word.invariant
