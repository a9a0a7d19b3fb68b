-- Many moves, one after the other, and where they end: no row is left in the tables of schema 1.
use Rattle.std.proofs.Common.{◌≡◌, inl, inr, List, [], ◌∷◌, refl, subst, ◌∙◌, true}
use Rattle.sqlite.specs.Order.{Row}
use Rattle.store_statements.specs.Tables.{Tables, Beside, IsEmptyBeside}
use Rattle.store_statements.specs.Changes.{changed}
use Rattle.store_statements.specs.World.{world_of}
use Rattle.store_statements.specs.Registry.{IsOfSchemaTwo, IsRegistry}
use Rattle.store_migration.specs.OldTables.{OldTables, no_old_tables, IsOfSchemaOne, IsOldRegistry}
use Rattle.store_migration.specs.OldWorld.{old_world}
use Rattle.store_migration.specs.Both.{world_of_both, AreBoth, emptied}
use Rattle.store_migration.specs.Moves.{Moved, Stage, MovesThrough, with_version_two}
use Rattle.store_migration.proofs.Starts.{world_begins, both_begin}
use Rattle.store_migration.proofs.BlobMoves.{blob_moves}
use Rattle.store_migration.proofs.ManifestMoves.{manifest_moves}
use Rattle.store_migration.proofs.SessionMoves.{session_moves}

pub ends : (t : Tables) (version : List Row) (beside : Beside) → AreBoth no_old_tables t → IsOfSchemaTwo version → IsEmptyBeside beside → IsRegistry (record t { version = version; beside = beside })
ends t version beside both two none = both.news version beside two none

pub row_moves : (olds news : OldTables) (t u : Tables) → AreBoth olds t → Moved olds news t u → (world_of_both news u ≡ world_of_both olds t) × AreBoth news u
row_moves olds news t u both (inl m) = blob_moves olds news t u both m
row_moves olds news t u both (inr (inl m)) = manifest_moves olds news t u both m
row_moves olds news t u both (inr (inr m)) = session_moves olds news t u both m

pub rows_move : (first : Stage) (stages : List Stage) (last : Stage) → AreBoth first.old first.tables → MovesThrough first stages last
    → (world_of_both last.old last.tables ≡ world_of_both first.old first.tables) × AreBoth last.old last.tables
rows_move first [] last both e = subst (λ (s : Stage). (world_of_both s.old s.tables ≡ world_of_both first.old first.tables) × AreBoth s.old s.tables) e (refl, both)
rows_move first (next ∷ stages) last both h =
    let one = row_moves first.old next.old first.tables next.tables both h.0 in
    let all = rows_move next stages last one.1 h.1 in
    (all.0 ∙ one.0, all.1)

pub all_move : (old : OldTables) (t u : Tables) (stages : List Stage) (version : List Row) → IsOldRegistry old t → MovesThrough (record { old = old; tables = emptied t }) stages (record { old = no_old_tables; tables = u }) → IsOfSchemaTwo version
    → (world_of (record u { version = version }) ≡ old_world old t) × ((beside : Beside) → IsEmptyBeside beside → IsRegistry (record u { version = version; beside = beside }))
all_move old t u stages version is h two =
    let moved = rows_move (record { old = old; tables = emptied t }) stages (record { old = no_old_tables; tables = u }) (both_begin old t is) h in
    (moved.0 ∙ world_begins old t, λ beside none. moved.1.news version beside two none)

-- ---- the version

pub version_raised : (rows : List Row) → IsOfSchemaOne rows → IsOfSchemaTwo (changed (λ r. true) with_version_two rows)
version_raised [] one = absurd cc
version_raised (r ∷ []) one = refl
version_raised (r ∷ s ∷ rows) one = absurd cc
