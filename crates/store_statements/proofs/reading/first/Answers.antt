use Rattle.std.proofs.Common.{◌≡◌, slice_get}
use Rattle.std.specs.Prelude.{option_map}
use Rattle.store_statements.proofs.Executed.{number_told}
use Rattle.store_statements.proofs.ReadRows.{is_read, not_read}
use Rattle.store_statements.proofs.reading.first.Goals as goal

pub returns-in-Ok : goal.returns-in-Ok
returns-in-Ok g c = is_read c.args.shown c.in-Ok.rows c.told.result (λ rows o. o ≡ option_map g.T.FromRow.shown (slice_get rows 0)) c.in-Ok.is (number_told _ c.first_of.result c.told.result c.told.ensures.ok (rw c.deref.ensures.value at c.first_of.ensures))

pub returns-in-Err : goal.returns-in-Err
returns-in-Err g c = not_read c.args.shown c.in-Err.error _ (λ rows o. o ≡ option_map g.T.FromRow.shown (slice_get rows 0)) c.in-Err.is
