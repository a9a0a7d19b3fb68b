use Rattle.store_writes.proofs.Fitting.{has_room_is}
use Rattle.store_writes.proofs.session_appends.with_room.Goals as goal

pub returns-in-Ok-Some-clause-room : goal.returns-in-Ok-Some-clause-room
returns-in-Ok-Some-clause-room g = has_room_is _ g.has_room.result g.has_room.ensures g.if-has_room.true
