use Rattle.registry_tasks.proofs.opened.run_order_at.Goals as goal

pub returns-in-Database : goal.returns-in-Database
returns-in-Database g c = record {
  runs = rw c.in-Database.is ((λ l had. had), c.run_order.ensures.runs);
  silent = c.run_order.ensures.silent;
  status = c.run_order.ensures.status;
  read = c.run_order.ensures.read;
}

pub returns-in-Server : goal.returns-in-Server
returns-in-Server g c = record {
  runs = rw c.in-Server.is ((λ l had. had), c.send_order.ensures.sent);
  silent = c.send_order.ensures.silent;
  status = c.send_order.ensures.status;
  read = c.send_order.ensures.read;
}
