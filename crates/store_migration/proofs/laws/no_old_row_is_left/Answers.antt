use Rattle.std.proofs.Common.{refl}
use Rattle.store_migration.proofs.Ends.{ends}
use Rattle.store_migration.proofs.laws.no_old_row_is_left.Goals as goal

pub returns : goal.returns
returns c = record { world = λ t version both two. refl; registry = ends }
