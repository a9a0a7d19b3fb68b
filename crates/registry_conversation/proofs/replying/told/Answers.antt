use Rattle.std.proofs.Common.{refl}
use Rattle.registry_conversation.proofs.replying.told.Goals as goal

pub returns-in-Ok : goal.returns-in-Ok
returns-in-Ok c = record { told = refl; sends = λ held held' text sent. rw c.in-Ok.is at sent }

pub returns-in-Err : goal.returns-in-Err
returns-in-Err c = record { told = tt; sends = λ held held' text sent. rw c.in-Err.is at sent }
