use Rattle.store_migration.proofs.BlobMoves.{blob_moves}
use Rattle.store_migration.proofs.laws.a_moved_blob_stays.Goals as goal

pub returns : goal.returns
returns c = record { world = λ olds news t u both m. (blob_moves olds news t u both m).0; both = λ olds news t u both m. (blob_moves olds news t u both m).1 }
