use Rattle.registry_http.proofs.FixedTexts.{busy_closing, busy_open}
use Rattle.registry_http.proofs.fixed_text.busy_text.Goals as goal

pub returns-then-close : goal.returns-then-close
returns-then-close c = λ head. rw c.if-close.true (busy_closing head)

pub returns-else-close : goal.returns-else-close
returns-else-close c = λ head. rw c.if-close.false (busy_open head)
