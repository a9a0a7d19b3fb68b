use Rattle.std.proofs.Common.{◌≡◌, ◌∙◌, [], ◌∷◌}
use Rattle.std.proofs.lemmas.Result.{IfOk-weaker}
use Rattle.order_texts.specs.Stopping.{stop_answer}
use Rattle.order_texts.proofs.AnswerLemmas.{done_text}
use Rattle.order_texts.proofs.stopping.write_stopping.Goals as goal

pub returns : goal.returns
returns c =
    IfOk-weaker c.from_slice.result (λ bytes. bytes.items ≡ 48 ∷ 10 ∷ []) (λ bytes. bytes.items ≡ stop_answer) (λ bytes is. is ∙ done_text []) c.from_slice.ensures.items
