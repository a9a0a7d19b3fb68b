use Rattle.std.proofs.Common.{◌≡◌, ◌∙◌, ap, sym}
use Rattle.std.proofs.lemmas.Result.{IfOk-weaker}
use Rattle.order_texts.specs.Answers.{failure_text}
use Rattle.order_carrying.proofs.AnsweringLemmas.{one_step, failure_keeps, answered_done, answered_failed, on_err}
use Rattle.order_carrying.proofs.answering.answer_order.Goals as goal

pub returns-in-Ok-clause-answers : goal.returns-in-Ok-clause-answers
returns-in-Ok-clause-answers g c = λ honest.
    answered_done _ _ c.in-Ok.field-0 _ _ _ c.in_ok-answer.ensures.items (c.in-Ok.ensures.carries honest)

pub returns-in-StorageFailure-clause-steps : goal.returns-in-StorageFailure-clause-steps
returns-in-StorageFailure-clause-steps g c = λ honest. one_step _ _ _ _ _ (c.in-Err.ensures.carries honest)

pub returns-in-StorageFailure-clause-answers : goal.returns-in-StorageFailure-clause-answers
returns-in-StorageFailure-clause-answers g c = λ honest.
    answered_failed _ _ c.in-Err.failure _ c.in_ok-lost.lost.items _ (λ e. let is = c.in-StorageFailure.is in cc)
    (c.in_ok-lost.ensures ∙ ap failure_text (sym c.in-StorageFailure.is)) (c.in-Err.ensures.carries honest)

pub returns-in_default : goal.returns-in_default
returns-in_default g c = record {
  honest = c.carry_over.ensures.honest;
  steps = λ honest. one_step _ _ _ _ _ (c.in-Err.ensures.carries honest);
  answers = λ honest.
      IfOk-weaker c.write_failure-in_default.result (λ bytes. bytes.items ≡ failure_text c.in-Err.failure) _
      (λ bytes is. answered_failed _ _ c.in-Err.failure _ bytes.items _ c.in_default.not-ConnectionFailure is (c.in-Err.ensures.carries honest))
      c.write_failure-in_default.ensures;
  unsaid = λ honest.
      on_err c.write_failure-in_default.result (failure_keeps _ _ c.in-Err.failure _ _ c.in_default.not-StorageFailure (c.in-Err.ensures.carries honest));
}
