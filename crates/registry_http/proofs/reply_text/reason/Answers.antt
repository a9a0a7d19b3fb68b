use Rattle.std.proofs.Common.{ap, []}
use Rattle.std.specs.Prelude.{unwrap_or}
use Rattle.registry_http.proofs.reply_text.reason.Goals as goal

pub returns-in-Some : goal.returns-in-Some
returns-in-Some c = ap (λ o. unwrap_or o []) c.in-Some.ensures.value

pub returns-in-None : goal.returns-in-None
returns-in-None c = ap (λ o. unwrap_or o []) c.in-None.ensures.value
