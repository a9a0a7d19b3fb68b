use Rattle.std.proofs.Common.{◌≡◌, map}
use Rattle.store_statements.proofs.Executed.{number_told}
use Rattle.store_statements.proofs.ReadRows.{is_read, not_read}
use Rattle.store_statements.proofs.reading.all.Goals as goal

pub returns-in-Ok : goal.returns-in-Ok
returns-in-Ok g c = is_read c.args.shown c.in-Ok.rows c.told.result (λ rows values. values.items ≡ map g.T.FromRow.shown rows) c.in-Ok.is (number_told _ c.each.result c.told.result c.told.ensures.ok (rw c.deref.ensures.value at c.each.ensures))

pub returns-in-Err : goal.returns-in-Err
returns-in-Err g c = not_read c.args.shown c.in-Err.error _ (λ rows values. values.items ≡ map g.T.FromRow.shown rows) c.in-Err.is
