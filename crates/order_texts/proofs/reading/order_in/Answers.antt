use Rattle.std.proofs.Common.{List, Result, IfOk, IfErr, map, inl, inr, arith}
use Rattle.std.proofs.lemmas.Bool.Decides.{nat_tests}
use Rattle.oci_types.specs.Text.{Text}
use Rattle.registry_orders.specs.declared.orders.Order.{Order}
use Rattle.order_texts.specs.declared.reading.Unread.{Unread}
use Rattle.order_texts.specs.Lines.{AreWordsOf, AreWordsOfNone}
use Rattle.order_texts.specs.Reading.{AreUnread}
use Rattle.order_texts.proofs.WordLemmas.{of_one, of_two, of_three, of_four, of_six, other_count}
use Rattle.order_texts.proofs.reading.order_in.Goals as goal
use Rattle.order_texts.proofs.reading.order_in.Goals.{in_default-via-then-words-lt1, in_default-via-else-words-lt1+else-words-lt2+else-words-lt3+else-words-lt4+else-words-lt5+then-words-lt6, in_default-via-else-words-lt1+else-words-lt2+else-words-lt3+else-words-lt4+else-words-lt5+else-words-lt6+else-words-lt7}

abbrev Ordered : Result Order Unread → List Text → Type 0
Ordered r words = record { read : IfOk r (AreWordsOf words); refused : IfErr r (AreUnread words) }

pub returns-in-len1 : goal.returns-in-len1
returns-in-len1 c = of_one (λ (words : List Text). Ordered c.order_alone.result words) c.args.words.now _ (omega arith) c.order_alone.ensures

pub returns-in-len2 : goal.returns-in-len2
returns-in-len2 c = of_two (λ (words : List Text). Ordered c.order_of_one.result words) c.args.words.now _ (omega arith) c.order_of_one.ensures

pub returns-in-len3 : goal.returns-in-len3
returns-in-len3 c = of_three (λ (words : List Text). Ordered c.order_of_two.result words) c.args.words.now _ (omega arith) c.order_of_two.ensures

pub returns-in-len4 : goal.returns-in-len4
returns-in-len4 c = of_four (λ (words : List Text). Ordered c.order_of_three.result words) c.args.words.now _ (omega arith) c.order_of_three.ensures

pub returns-in-len6 : goal.returns-in-len6
returns-in-len6 c = of_six (λ (words : List Text). Ordered c.order_of_five.result words) c.args.words.now _ (omega arith) c.order_of_five.ensures

pub returns-in_default : goal.returns-in_default
returns-in_default c = record { read = tt; refused = none }
  where
    none : AreWordsOfNone (map (λ word. word.now) c.args.words.now)
    none =
        elim c.in_default.branch [
          | in_default-via-then-words-lt1 w ↦ other_count c.args.words.now (inl (grind (arith, nat_tests)))
          | in_default-via-else-words-lt1+else-words-lt2+else-words-lt3+else-words-lt4+else-words-lt5+then-words-lt6 w ↦ other_count c.args.words.now (inr (inl (grind (arith, nat_tests))))
          | in_default-via-else-words-lt1+else-words-lt2+else-words-lt3+else-words-lt4+else-words-lt5+else-words-lt6+else-words-lt7 w ↦ other_count c.args.words.now (inr (inr (grind (arith, nat_tests))))
        ]
