use Rattle.store_migration.proofs.Starts.{world_begins, both_begin}
use Rattle.store_migration.proofs.laws.old_rows_stand_for_their_world.Goals as goal

pub returns : goal.returns
returns c = record { world = λ old t is. world_begins old t; both = both_begin }
