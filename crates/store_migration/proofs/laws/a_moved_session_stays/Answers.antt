use Rattle.store_migration.proofs.SessionMoves.{session_moves, session_repos}
use Rattle.store_migration.proofs.laws.a_moved_session_stays.Goals as goal

pub returns : goal.returns
returns c = record { world = λ olds news t u both m. (session_moves olds news t u both m).0; repos = session_repos; both = λ olds news t u both m. (session_moves olds news t u both m).1 }
