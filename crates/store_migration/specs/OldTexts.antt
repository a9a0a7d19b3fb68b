-- The tables that only schema 1 has. What the texts mean, where the tables stand in a schema.
use Rattle.std.specs.Prelude.{ℕ, List, ◌∷◌, [], codes, pos}
use Rattle.sqlite.specs.declared.types.Value.TheVariants.{Int}
use Rattle.sqlite.specs.Schema.{Schema}
use Rattle.sqlite.specs.Table.{Table}
use Rattle.sqlite.specs.Term.{lit, col}
use Rattle.store_schema.specs.Schema.{version_table}
use Rattle.store_schema.specs.Layout.{Stands, Means, equals}
use Rattle.store_schema.specs.Commands.{deletes, selects, updates}

abbrev pub blob_keys : List ℕ
blob_keys = codes "SELECT repo, digest FROM registry_blobs"

abbrev pub blob_bytes : List ℕ
blob_bytes = codes "SELECT bytes FROM registry_blobs WHERE repo = ?1 AND digest = ?2"

abbrev pub blob_take : List ℕ
blob_take = codes "DELETE FROM registry_blobs WHERE repo = ?1 AND digest = ?2"

abbrev pub manifest_keys : List ℕ
manifest_keys = codes "SELECT repo, digest FROM registry_manifests"

abbrev pub manifest_bytes : List ℕ
manifest_bytes = codes "SELECT bytes FROM registry_manifests WHERE repo = ?1 AND digest = ?2"

abbrev pub manifest_take : List ℕ
manifest_take = codes "DELETE FROM registry_manifests WHERE repo = ?1 AND digest = ?2"

abbrev pub session_keys : List ℕ
session_keys = codes "SELECT repo, number FROM registry_sessions"

abbrev pub session_bytes : List ℕ
session_bytes = codes "SELECT bytes FROM registry_sessions WHERE repo = ?1 AND number = ?2"

abbrev pub session_take : List ℕ
session_take = codes "DELETE FROM registry_sessions WHERE repo = ?1 AND number = ?2"

abbrev pub version_raise : List ℕ
version_raise = codes "UPDATE registry_schema SET version = 2"

-- the texts on one of the three tables: its keys, whose second column has this name, the bytes of a key,
-- which stand in this column, and that a key goes
pub record KnowsOldTexts (schema : Schema) (table : Table) (stands : Stands schema table)
    (keys bytes take second : List ℕ) (at : ℕ) : Type 0 where
  pub keys_mean : Means schema keys
      (selects schema table [] (col 1 1 ∷ col 1 2 ∷ []) (codes "repo" ∷ second ∷ []))
  pub bytes_mean : Means schema bytes
      (selects schema table (equals 1 0 ∷ equals 2 1 ∷ []) (col 1 at ∷ []) (codes "bytes" ∷ []))
  pub take_mean : Means schema take (deletes stands.at schema table (equals 1 0 ∷ equals 2 1 ∷ []))

-- the version is raised in each row
abbrev pub KnowsRaise : (schema : Schema) → Stands schema version_table → Type 0
KnowsRaise schema stands =
    Means schema version_raise
    (updates stands.at schema version_table [] (col 1 0 ∷ col 1 0 ∷ lit (Int (pos 2)) ∷ []))
