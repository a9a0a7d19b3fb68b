use Rattle.std.proofs.Common.{◌≡◌, slice_get}
use Rattle.std.specs.Prelude.{option_map}
use Rattle.store_schema.specs.Rows.{bytes_at}
use Rattle.store_statements.proofs.Executed.{number_told}
use Rattle.store_migration.specs.Shown.{shown}
use Rattle.store_migration.proofs.first_bytes.first_bytes.Goals as goal

pub returns-in-Ok : goal.returns-in-Ok
returns-in-Ok c =
    rw c.in-Ok.is
    (number_told (λ o. shown o ≡ option_map (λ r. bytes_at r 0) (slice_get c.in-Ok.rows.items 0)) c.bytes_in.result c.told.result c.told.ensures.ok (rw c.deref.ensures.value at c.bytes_in.ensures))
