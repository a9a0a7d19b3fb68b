use Rattle.std.proofs.Common.{◌≡◌, map}
use Rattle.store_statements.proofs.Executed.{number_told}
use Rattle.store_statements.proofs.ReadRows.{is_read, not_read}
use Rattle.store_places.specs.Places.{runs_at}
use Rattle.store_pack.specs.Reads.{run_shown}
use Rattle.store_pack.proofs.reading.all_extents.Goals as goal

pub returns-in-Ok : goal.returns-in-Ok
returns-in-Ok c = is_read c.args.shown c.in-Ok.rows c.told.result (λ rows es. runs_at es.items ≡ map run_shown rows) c.in-Ok.is (number_told _ c.extents_shown.result c.told.result c.told.ensures.ok (rw c.deref.ensures.value at c.extents_shown.ensures))

pub returns-in-Err : goal.returns-in-Err
returns-in-Err c = not_read c.args.shown c.in-Err.error _ (λ rows es. runs_at es.items ≡ map run_shown rows) c.in-Err.is
