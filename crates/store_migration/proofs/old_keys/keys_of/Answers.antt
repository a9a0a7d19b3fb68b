use Rattle.store_statements.proofs.Executed.{number_told}
use Rattle.store_migration.specs.Shown.{AllShown}
use Rattle.store_migration.proofs.old_keys.keys_of.Goals as goal

pub returns-in-Ok : goal.returns-in-Ok
returns-in-Ok g c =
    rw c.in-Ok.is (number_told (λ keys. AllShown g.K.FromRow.shows c.in-Ok.rows.items keys.items) c.keys_in.result c.told.result c.told.ensures.ok (rw c.deref.ensures.value at c.keys_in.ensures))
