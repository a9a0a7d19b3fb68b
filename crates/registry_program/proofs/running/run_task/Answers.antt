use Rattle.std.proofs.Common.{inl, refl, arith, rules}
use Rattle.registry_opening.specs.Openings.{between}
use Rattle.registry_tasks.specs.Acts.{acts}
use Rattle.registry_tasks.specs.Program.{streams}
use Rattle.registry_tasks.proofs.ExitStatuses.{memory_read, untouched_memory}
use Rattle.registry_program.proofs.EndedTasks.{order_spares}
use Rattle.registry_program.proofs.running.run_task.Goals as goal

pub returns-in-Memory : goal.returns-in-Memory
returns-in-Memory g c = record {
  runs =
      let e = streams (g.R.Read.remaining c.args.reader.now) (g.R.Read.remaining c.serve_memory.new.reader) (g.W.Write.contents c.args.out.now) (g.W.Write.contents c.serve_memory.new.out) in
      inl (memory_read c.in-Memory.settings c.in-Memory.setup c.serve_memory.result e _ c.serve_memory.ensures.serves, rw c.in-Memory.is (((λ l had. had), (λ l had. had)), c.serve_memory.ensures.serves));
  refused = λ more less.
      let e = streams (g.R.Read.remaining c.args.reader.now) (g.R.Read.remaining c.serve_memory.new.reader) (g.W.Write.contents c.args.out.now) (g.W.Write.contents c.serve_memory.new.out) in
      inl (untouched_memory c.in-Memory.settings c.in-Memory.setup c.serve_memory.result e _ c.serve_memory.ensures.serves more (omega arith));
  status = search rules;
}

pub returns-in-Stored : goal.returns-in-Stored
returns-in-Stored g c = record {
  runs = inl ((λ two. let three = c.run_stored.ensures.failed (omega arith) in omega arith), rw c.in-Stored.is ((λ l had. had), c.run_stored.ensures.runs));
  refused = λ more less. absurd (let three = c.run_stored.ensures.failed more in omega arith);
  status = c.run_stored.ensures.status;
}

pub returns-in-Server : goal.returns-in-Server
returns-in-Server g c = record {
  runs = inl (c.run_server_over.ensures.read, rw c.in-Server.is ((λ l had. had), refl, c.run_server_over.ensures.runs));
  refused = λ more less. inl (record { left = refl; held = c.run_server_over.ensures.silent more (omega arith) });
  status = c.run_server_over.ensures.status;
}

pub returns-in-Order : goal.returns-in-Order
returns-in-Order g c = record {
  runs = inl (c.run_order_at.ensures.read, rw c.in-Order.is (refl, c.run_order_at.ensures.runs));
  refused = λ more less. inl (record { left = refl; held = c.run_order_at.ensures.silent more (omega arith) });
  status = c.run_order_at.ensures.status;
}

pub returns-in-TokenOrder : goal.returns-in-TokenOrder
returns-in-TokenOrder g c = record {
  runs = rw c.in-TokenOrder.is c.run_token_order.ensures.runs;
  refused = λ more less.
      let found = c.in-TokenOrder in
      rw found.is (order_spares (acts (between g.K.Keeper.is_honest g.K.Keeper.kept g.O.Opener.opens (g.O.Opener.had c.args.opener.now)
      (g.O.Opener.had c.run_token_order.new.opener)) (g.M.Messenger.had c.args.messenger.now) (g.M.Messenger.had c.run_token_order.new.messenger))
      found.place found.layout found.source found.order _ _ _ c.run_token_order.ensures.runs (c.run_token_order.ensures.silent more (omega arith)));
  status = c.run_token_order.ensures.status;
}

pub returns-in-Check : goal.returns-in-Check
returns-in-Check g c = record {
  runs = inl ((λ two. let three = c.run_check.ensures.failed (omega arith) in omega arith), rw c.in-Check.is ((λ l had. had), refl, c.run_check.ensures.runs));
  refused = λ more less. absurd (let three = c.run_check.ensures.failed more in omega arith);
  status = c.run_check.ensures.status;
}

pub returns-in-Migration : goal.returns-in-Migration
returns-in-Migration g c = record {
  runs = inl (c.run_migration.ensures.read, rw c.in-Migration.is ((λ l had. had), record { left = refl; held = refl }, c.run_migration.ensures.runs));
  refused = λ more less. inl (record { left = refl; held = refl });
  status = c.run_migration.ensures.status;
}

pub returns-in-Stop : goal.returns-in-Stop
returns-in-Stop g c = record {
  runs = inl (c.send_stop.ensures.read, rw c.in-Stop.is ((λ l had. had), refl, c.send_stop.ensures.sent));
  refused = λ more less. inl (record { left = refl; held = c.send_stop.ensures.silent more (omega arith) });
  status = c.send_stop.ensures.status;
}
