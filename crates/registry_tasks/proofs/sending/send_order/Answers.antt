use Rattle.std.proofs.Common.{inl, inr, refl}
use Rattle.registry_orders.specs.declared.failure.Failure.TheVariants.{OutOfMemory}
use Rattle.registry_tasks.proofs.StatusBounds.{status_at_most, sending_read}
use Rattle.registry_tasks.proofs.sending.send_order.Goals as goal

pub returns-in-Ok : goal.returns-in-Ok
returns-in-Ok g c = record {
  sent = inl (rw (c.as_str.ensures.value, c.in-Ok.ensures) at c.send_line.ensures.sent);
  silent = c.send_line.ensures.silent;
  status = c.send_line.ensures.status;
  read = c.send_line.ensures.read;
}

pub returns-in-Err : goal.returns-in-Err
returns-in-Err g c = record {
  sent = inr ((λ l had. had), c.say.ensures.status, refl, c.say.ensures.said);
  silent = λ more less. refl;
  status = status_at_most OutOfMemory c.say.result c.say.ensures.status;
  read = sending_read OutOfMemory c.say.result tt c.say.ensures.status;
}
