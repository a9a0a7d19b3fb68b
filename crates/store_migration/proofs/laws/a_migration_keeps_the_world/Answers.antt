use Rattle.store_migration.proofs.Ends.{all_move}
use Rattle.store_migration.proofs.laws.a_migration_keeps_the_world.Goals as goal

pub returns : goal.returns
returns c = record { world = λ old t u stages version is h two. (all_move old t u stages version is h two).0; registry = λ old t u stages version beside is h two none. (all_move old t u stages version is h two).1 beside none }
