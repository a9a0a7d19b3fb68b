use Rattle.std.proofs.Common.{◌≡◌, ◌++◌, take, map, string_bytes}
use Rattle.order_texts.specs.Texts.{behind_spaces}
use Rattle.order_texts.proofs.words.push_each.Given as goal

abbrev pub invariant-loop-word : goal.invariant-loop-word
invariant-loop-word l = string_bytes l.text ≡ string_bytes l.fn.text ++ behind_spaces (map (λ word. word.now) (take l.word-index l.words))
