-- The tables that only schema 1 has, beside those of schema 2.
use Rattle.std.specs.Prelude.{◌≡◌, ◌++◌, ℕ, List, ◌∷◌, [], codes, slice_get, unwrap_or}
use Rattle.sqlite.specs.Order.{Row}
use Rattle.sqlite.specs.Schema.{Schema}
use Rattle.sqlite.specs.Tree.{Trees}
use Rattle.store_schema.specs.Schema.{version_table}
use Rattle.store_schema.specs.OldSchema.{old_blobs_table, old_manifests_table, old_sessions_table}
use Rattle.store_schema.specs.Layout.{tree_of, Stands, IsUnreferred}
use Rattle.store_schema.specs.Rows.{HaveIds}
use Rattle.store_statements.specs.Keys.{same_key, same_session}
use Rattle.store_statements.specs.Tables.{Tables, Beside, AreRows}
use Rattle.store_statements.specs.Known.{AreApart, trees_of, rows_beside}
use Rattle.store_migration.specs.OldTables.{OldTables, IsOldBlobRow, IsOldManifestRow, IsOldSessionRow}
use Rattle.store_migration.specs.OldTexts.{KnowsOldTexts, KnowsRaise, blob_keys, blob_bytes, blob_take, manifest_keys, manifest_bytes, manifest_take, session_keys, session_bytes, session_take}

abbrev pub old_trees : Schema → List ℕ
old_trees schema =
    tree_of schema old_blobs_table ∷ tree_of schema old_manifests_table
    ∷ tree_of schema old_sessions_table ∷ []

-- a schema with the tables of both, over which the texts mean what they say
pub record KnowsOld (schema : Schema) : Type 0 where
  pub version : Stands schema version_table
  pub blobs : Stands schema old_blobs_table
  pub manifests : Stands schema old_manifests_table
  pub sessions : Stands schema old_sessions_table
  pub blobs_alone : IsUnreferred schema old_blobs_table
  pub manifests_alone : IsUnreferred schema old_manifests_table
  pub sessions_alone : IsUnreferred schema old_sessions_table
  pub apart : AreApart (old_trees schema ++ trees_of schema)
  -- they are the further tables, in this order
  pub beside : (trees : Trees)
      → rows_beside trees (trees_of schema) schema.tables
      ≡ trees (tree_of schema old_blobs_table) ∷ trees (tree_of schema old_manifests_table)
      ∷ trees (tree_of schema old_sessions_table) ∷ []
  pub blob_texts : KnowsOldTexts schema old_blobs_table blobs blob_keys blob_bytes blob_take
      (codes "digest") 4
  pub manifest_texts : KnowsOldTexts schema old_manifests_table manifests manifest_keys manifest_bytes
      manifest_take (codes "digest") 6
  pub session_texts : KnowsOldTexts schema old_sessions_table sessions session_keys session_bytes
      session_take (codes "number") 4
  pub raise : KnowsRaise schema version

-- ---- as the tables have them

abbrev pub rows_at : List (List Row) → ℕ → List Row
rows_at rows at = unwrap_or (slice_get rows at) []

abbrev pub olds_of : Beside → OldTables
olds_of beside = record {
  blobs = rows_at beside.rows 0;
  manifests = rows_at beside.rows 1;
  sessions = rows_at beside.rows 2;
}

abbrev pub old_of : Tables → OldTables
old_of t = olds_of t.beside

-- the tables with these in the place of the old ones
abbrev pub with_olds : Tables → OldTables → Tables
with_olds t old = record t {
  beside = record { schema = t.beside.schema; rows = old.blobs ∷ old.manifests ∷ old.sessions ∷ [] };
}

-- their rows are of their types
pub record AreOldRows (old : OldTables) : Type 0 where
  pub blobs : AreRows IsOldBlobRow same_key old.blobs
  pub manifests : AreRows IsOldManifestRow same_key old.manifests
  pub sessions : AreRows IsOldSessionRow same_session old.sessions

-- the three tables stand beside these, and the rows that say which schema it is have rowids
pub record HasOlds (t : Tables) : Type 0 where
  pub known : KnowsOld t.beside.schema
  pub version : HaveIds t.version
  pub rows : AreOldRows (old_of t)
