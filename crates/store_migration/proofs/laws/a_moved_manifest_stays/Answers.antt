use Rattle.store_migration.proofs.ManifestMoves.{manifest_moves}
use Rattle.store_migration.proofs.laws.a_moved_manifest_stays.Goals as goal

pub returns : goal.returns
returns c = record { world = λ olds news t u both m. (manifest_moves olds news t u both m).0; both = λ olds news t u both m. (manifest_moves olds news t u both m).1 }
