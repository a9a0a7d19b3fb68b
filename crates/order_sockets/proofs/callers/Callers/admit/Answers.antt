use Rattle.std.proofs.Common.{refl}
use Rattle.order_sockets.proofs.CallingLemmas.{none_come}
use Rattle.order_sockets.proofs.callers.Callers.admit.Goals as goal

pub returns-else-is_ok : goal.returns-else-is_ok
returns-else-is_ok c = record { come = none_come _; stopping = refl }
