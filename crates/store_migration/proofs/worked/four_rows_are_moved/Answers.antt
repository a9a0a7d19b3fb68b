use Rattle.std.proofs.Common.{refl}
use Rattle.store_migration.proofs.WorkedMoves.{worked_registry, all_four, bytes_once}
use Rattle.store_migration.proofs.worked.four_rows_are_moved.Goals as goal

pub returns : goal.returns
returns c = record { registry = worked_registry; moved = all_four; before = refl; after = refl; once = bytes_once }
