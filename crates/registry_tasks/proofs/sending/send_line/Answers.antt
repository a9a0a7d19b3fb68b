use Rattle.std.proofs.Common.{Some, None, refl}
use Rattle.registry_tasks.proofs.StatusBounds.{status_at_most, sending_read}
use Rattle.registry_tasks.proofs.sending.send_line.Goals as goal

pub returns-in-Ok : goal.returns-in-Ok
returns-in-Ok g c = record {
  sent = (Some c.in-Ok.answer.items, c.in-Ok.ensures.asked, rw c.as_slice.ensures.value at c.relay.ensures.relays);
  silent = c.relay.ensures.silent;
  status = c.relay.ensures.status;
  read = c.relay.ensures.read;
}

pub returns-in-Err : goal.returns-in-Err
returns-in-Err g c =
    let none = c.in-Err.none in
    let said = c.say_at.ensures in
    record {
      sent = (None, c.in-Err.ensures.asked, (none.failure, c.in-Err.ensures.refused, said.status, refl, (none.cause, said.said)));
      silent = λ more less. refl;
      status = status_at_most none.failure c.say_at.result said.status;
      read = sending_read none.failure c.say_at.result c.in-Err.ensures.refused said.status;
    }
