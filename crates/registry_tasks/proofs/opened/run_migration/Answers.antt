use Rattle.std.proofs.Common.{arith, Ok, Err, refl}
use Rattle.registry_tasks.proofs.ExitStatuses.{opening_read}
use Rattle.registry_tasks.proofs.StatusBounds.{status_at_most}
use Rattle.registry_tasks.proofs.opened.run_migration.Goals as goal

pub returns-in-Ok : goal.returns-in-Ok
returns-in-Ok g c = record { runs = (Ok tt, c.in-Ok.ensures.moved, tt, (refl, refl)); status = omega arith; read = λ two. omega arith }

pub returns-in-Err : goal.returns-in-Err
returns-in-Err g c =
    let failure = c.in-Err.failure in
    let told = c.fail_at.ensures.0 in
    record {
      runs = (Err failure, c.in-Err.ensures.moved, c.in-Err.ensures.refused, c.fail_at.ensures);
      status = status_at_most failure c.fail_at.result told;
      read = rw told (opening_read failure c.in-Err.ensures.refused);
    }
