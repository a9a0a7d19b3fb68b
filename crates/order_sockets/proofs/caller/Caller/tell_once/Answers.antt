use Rattle.std.proofs.Common.{refl}
use Rattle.order_sockets.proofs.caller.Caller.tell_once.Goals as goal

pub returns-then-is_empty : goal.returns-then-is_empty
returns-then-is_empty c = record { heard = refl; answered = refl; answer = refl; stops = refl; over = λ over. refl }

pub returns-in-Ok-eq0 : goal.returns-in-Ok-eq0
returns-in-Ok-eq0 c = record { heard = refl; answered = refl; answer = refl; stops = refl; over = λ over. refl }

pub returns-in-Ok : goal.returns-in-Ok
returns-in-Ok c = record { heard = refl; answered = refl; answer = refl; stops = refl; over = λ over. over }

pub returns-in-WouldBlock : goal.returns-in-WouldBlock
returns-in-WouldBlock c = record { heard = refl; answered = refl; answer = refl; stops = refl; over = λ over. over }

pub returns-in-Interrupted : goal.returns-in-Interrupted
returns-in-Interrupted c = record { heard = refl; answered = refl; answer = refl; stops = refl; over = λ over. over }

pub returns-in_default : goal.returns-in_default
returns-in_default c = record { heard = refl; answered = refl; answer = refl; stops = refl; over = λ over. refl }
