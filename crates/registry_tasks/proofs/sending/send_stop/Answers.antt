use Rattle.registry_tasks.proofs.sending.send_stop.Goals as goal

pub returns : goal.returns
returns g c = record {
  sent = c.send_line.ensures.sent;
  silent = c.send_line.ensures.silent;
  status = c.send_line.ensures.status;
  read = c.send_line.ensures.read;
}
