use Rattle.store_migration.proofs.Ends.{rows_move}
use Rattle.store_migration.proofs.laws.moved_rows_stay.Goals as goal

pub returns : goal.returns
returns c = record { world = λ first stages last both h. (rows_move first stages last both h).0; both = λ first stages last both h. (rows_move first stages last both h).1 }
