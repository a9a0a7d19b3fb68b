use Rattle.store_statements.proofs.Executed.{number_told}
use Rattle.store_statements.proofs.ReadRows.{is_read, not_read}
use Rattle.store_pack.specs.Pack.{ShowsOnly}
use Rattle.store_pack.proofs.pack_row.only_row.Goals as goal

pub returns-in-Ok : goal.returns-in-Ok
returns-in-Ok c = is_read c.args.shown c.in-Ok.rows c.told.result ShowsOnly c.in-Ok.is (number_told _ c.only_row_shown.result c.told.result c.told.ensures.ok (rw c.deref.ensures.value at c.only_row_shown.ensures))

pub returns-in-Err : goal.returns-in-Err
returns-in-Err c = not_read c.args.shown c.in-Err.error _ ShowsOnly c.in-Err.is
