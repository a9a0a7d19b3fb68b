use Rattle.std.proofs.Common.{◌≡◌, ◌∙◌, ap, map, List}
use Rattle.std.proofs.lemmas.Result.{IfOk-weaker, IfErr-weaker}
use Rattle.oci_types.specs.Text.{Text}
use Rattle.order_texts.specs.Lines.{AreWordsOf, Spells}
use Rattle.order_texts.specs.Reading.{AreUnread, IsUnread}
use Rattle.order_texts.proofs.LineLemmas.{split, line_is_utf8, spells_by_words, unread_by_words}
use Rattle.order_texts.proofs.reading.read_order.Goals as goal

pub returns-in_default : goal.returns-in_default
returns-in_default c = record { read = tt; refused = λ o h. c.in_default.ensures.cases.0 (line_is_utf8 c.args.line.now o h) }

pub returns : goal.returns
returns c =
    let line = c.args.line.now in
    let words : List Text = map (λ word. word.now) c.as_slice.result.now in
    let parted : words ≡ split line =
    ap (map (λ word. word.now)) c.as_slice.ensures.value ∙ c.in_ok-words.ensures ∙ ap split c.in-Ok.ensures.cases.0 in
    record {
      read = IfOk-weaker c.order_in.result (AreWordsOf words) (Spells line) (λ o h. spells_by_words line words o parted h) c.order_in.ensures.read;
      refused = IfErr-weaker c.order_in.result (AreUnread words) (IsUnread line) (λ u h. unread_by_words line words u parted h) c.order_in.ensures.refused;
    }
