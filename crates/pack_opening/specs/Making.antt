-- A registry whose contents stand in a pack: what its tables are, and what the making of them leaves.
use Rattle.std.specs.Prelude.{◌≡◌, ◌≢◌, ◌⊎◌, ℕ, List, [], codes, Result, OnOk}
use Rattle.std.specs.List.{AllByRecursion}
use Rattle.sqlite.specs.Effect.{Database}
use Rattle.sqlite.specs.State.{State}
use Rattle.sqlite.specs.Table.{Table}
use Rattle.sqlite.specs.Tree.{Trees}
use Rattle.registry_model.specs.World.{no_world}
use Rattle.store_schema.specs.Schema.{version_table}
use Rattle.store_schema.specs.PackSchema.{pack_schema}
use Rattle.store_schema.specs.Layout.{tree_of, rows_of}
use Rattle.store_contents.specs.Layouts.{InPack}
use Rattle.store_contents.specs.Places.{place_rows}
use Rattle.store_statements.specs.Registry.{Agree, IsOfSchema}
use Rattle.store_statements.specs.World.{world_of}
use Rattle.store_statements.specs.Held.{HoldsTables, SettlesOn, reopened, tables_in}
use Rattle.store_pack.specs.Pack.{PackSays}

-- a registry's tables, of schema 3, which stand for a world over a pack that has these bytes
pub record IsPackRegistry (file : List ℕ) (db : Database) : Type 0 where
  pub holds : HoldsTables (InPack file) db
  pub agree : Agree (tables_in (InPack file) db)

-- Settled, on the empty world whatever bytes a pack has, since no place names any. The row of the pack says
-- the mark, and age 0.
pub record IsNewPack (mark : List ℕ) (s : State) : Type 0 where
  pub settles : (file : List ℕ) → SettlesOn (InPack file) s no_world
  pub says : PackSays s.now mark 0
  pub places : place_rows s.now ≡ []

-- ---- on the way

-- the text of the version
abbrev pub version_add : List ℕ
version_add = codes "INSERT INTO registry_schema (version) VALUES (3)"

-- the tables were made, and the row of the version is in; no other row is
pub record IsVersioned (db : Database) : Type 0 where
  pub schema_is : db.schema ≡ pack_schema
  pub version : IsOfSchema 3 (rows_of db version_table)
  pub empty : AllByRecursion
      (λ (t : Table). t.tree ≢ tree_of pack_schema version_table → db.trees t.tree ≡ [])
      pack_schema.tables

-- so is the row of the pack: this is to be committed
pub record IsFilled (mark : List ℕ) (db : Database) : Type 0 where
  pub schema_is : db.schema ≡ pack_schema
  pub registry : (file : List ℕ) → IsPackRegistry file db
  pub world : (file : List ℕ) → world_of (tables_in (InPack file) db) ≡ no_world
  pub says : PackSays db mark 0
  pub places : place_rows db ≡ []

-- ---- a crash

-- the database of these trees, as the schema lists them
abbrev pub pack_database : Trees → Database
pack_database trees = record { schema = pack_schema; trees = trees }

-- A crash leaves the database as it was, or such tables; where they were made, such.
abbrev pub LeavesNew : {A E : Type 0} → List ℕ → State → State → Result A E → Type 0
LeavesNew mark old new r =
    (db : Trees) → new.may_leave db
    → OnOk r (IsNewPack mark (reopened (pack_database db)))
    × ((db ≡ old.now.trees) ⊎ IsNewPack mark (reopened (pack_database db)))
