use Rattle.registry_http.proofs.FixedTexts.{failed_closing, failed_open}
use Rattle.registry_http.proofs.fixed_text.failed_text.Goals as goal

pub returns-then-close : goal.returns-then-close
returns-then-close c = λ head. rw c.if-close.true (failed_closing head)

pub returns-else-close : goal.returns-else-close
returns-else-close c = λ head. rw c.if-close.false (failed_open head)
