use Rattle.std.proofs.Common.{refl}
use Rattle.order_sockets.proofs.CallingLemmas.{none_come}
use Rattle.order_sockets.proofs.callers.Callers.accept_next.Goals as goal

pub returns-in_default : goal.returns-in_default
returns-in_default c = record { come = none_come _; stopping = refl }

pub returns-in-Ok : goal.returns-in-Ok
returns-in-Ok c = record { come = c.admit.ensures.come; stopping = c.admit.ensures.stopping }

pub returns-in-ConnectionAborted : goal.returns-in-ConnectionAborted
returns-in-ConnectionAborted c = record { come = none_come _; stopping = refl }

pub returns-in_default-kind : goal.returns-in_default-kind
returns-in_default-kind c = record { come = none_come _; stopping = refl }
