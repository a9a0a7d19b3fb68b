use Rattle.std.proofs.Common.{Ok, Err, refl}
use Rattle.registry_tasks.proofs.ExitStatuses.{set_up_served}
use Rattle.registry_tasks.proofs.stdio.serve_memory.Goals as goal

pub returns-in-Ok : goal.returns-in-Ok
returns-in-Ok g c = record {
  serves =
      let served = rw c.in-Ok.is at c.serve_set_up.ensures in
      (Ok c.in-Ok.field-0, set_up_served c.args.settings c.args.setup.now _ _ _ c.new-keeper.ensures served, (refl, refl));
}

pub returns-in-Err : goal.returns-in-Err
returns-in-Err g c = record {
  serves =
      let served = rw c.in-Err.is at c.serve_set_up.ensures in
      (Err c.in-Err.failure, set_up_served c.args.settings c.args.setup.now _ _ _ c.new-keeper.ensures served, (c.say.ensures.status, c.say.ensures.said));
}
