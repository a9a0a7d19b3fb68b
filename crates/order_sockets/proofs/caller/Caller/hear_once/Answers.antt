use Rattle.std.proofs.Common.{refl}
use Rattle.order_sockets.proofs.caller.Caller.hear_once.Goals as goal

pub returns-in-Ok-eq0 : goal.returns-in-Ok-eq0
returns-in-Ok-eq0 c = record { answered = refl; answer = refl; stops = refl }

pub returns-after-not-kept : goal.returns-after-not-kept
returns-after-not-kept c = record { answered = refl; answer = refl; stops = refl }

pub returns-in-WouldBlock : goal.returns-in-WouldBlock
returns-in-WouldBlock c = record { answered = refl; answer = refl; stops = refl }

pub returns-in-Interrupted : goal.returns-in-Interrupted
returns-in-Interrupted c = record { answered = refl; answer = refl; stops = refl }

pub returns-in_default : goal.returns-in_default
returns-in_default c = record { answered = refl; answer = refl; stops = refl }
