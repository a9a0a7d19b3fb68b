use Rattle.order_texts.proofs.TextLemmas.{words_joined}
use Rattle.order_texts.proofs.words.push_words.Goals as goal

pub returns : goal.returns
returns c = words_joined c.push_each.result _ _ _ _ _ c.in_ok-push_str.ensures.bytes c.push_each.ensures
