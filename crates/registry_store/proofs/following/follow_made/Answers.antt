use Rattle.std.proofs.Common.{refl}
use Rattle.registry_store.proofs.following.follow_made.Goals as goal

pub returns-in-Ok : goal.returns-in-Ok
returns-in-Ok g c = record { followed = rw c.in-Ok.is c.follow.ensures; kept = rw c.in-Ok.is tt }

pub returns-in-Err : goal.returns-in-Err
returns-in-Err g c = record { followed = rw c.in-Err.is tt; kept = rw c.in-Err.is refl }
