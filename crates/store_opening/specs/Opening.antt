-- What a database is found to be: a registry's tables, of a schema that one row names (profile).
use Rattle.std.specs.Prelude.{◌≡◌, List, [], ◌∷◌, codes, map, false, is_some, Bool, IsTrue}
use Rattle.sqlite.specs.Order.{Row, column}
use Rattle.sqlite.specs.Schema.{Schema}
use Rattle.sqlite.specs.Effect.{Database}
use Rattle.sqlite.specs.State.{State}
use Rattle.sqlite_schema.specs.Names.{table_named}
use Rattle.store_contents.specs.Layouts.{InTables}
use Rattle.store_statements.specs.Tables.{IsEmptyBeside}
use Rattle.store_statements.specs.Registry.{Agree, IsOfSchemaTwo}
use Rattle.registry_model.specs.World.{no_world}
use Rattle.sqlite.specs.Term.{col}
use Rattle.store_schema.specs.Schema.{version_table}
use Rattle.store_schema.specs.Layout.{Stands, Means}
use Rattle.store_schema.specs.Commands.{selects}
use Rattle.store_schema.specs.Beside.{Keeps}
use Rattle.store_statements.specs.Known.{KnowsRegistry}
use Rattle.store_statements.specs.VersionTexts.{version_find}
use Rattle.store_statements.specs.Held.{HoldsTables, SettlesOn, tables_in, beside_in}
use Rattle.store_statements.specs.Steps.{IsNew}

-- what the rows of `registry_schema` say
abbrev pub versions_in : Database → List Row
versions_in db = map {B = Row} (λ r. column r 1 ∷ []) (tables_in InTables db).version

-- one row says that the tables are of schema 2
abbrev pub SaysTwo : Database → Type 0
SaysTwo db = IsOfSchemaTwo (tables_in InTables db).version

-- the table stands, and the text that asks it for its rows means that
pub record KnowsVersion (schema : Schema) : Type 0 where
  pub stands : Stands schema version_table
  pub find : Means schema version_find
      (selects schema version_table [] (col 1 1 ∷ []) (codes "version" ∷ []))

-- a registry's tables, of schema 2, which stand for a world
pub record HoldsRegistry (db : Database) : Type 0 where
  pub holds : HoldsTables InTables db
  pub agree : Agree (tables_in InTables db)

-- open, with nothing uncommitted
pub record IsIdle (s : State) : Type 0 where
  pub is_open : IsTrue s.is_open
  pub autocommit : s.in_transaction ≡ false
  pub committed : s.now ≡ s.committed

-- there is a table of this name, in letters of either case
abbrev pub has_version_table : Schema → Bool
has_version_table schema = is_some (table_named schema (codes "registry_schema"))

-- ---- tables that are made beside others

-- what was there stays; over a schema that the store knows, where no further table has a row that may go with
-- a repository, the tables are new
pub record IsMadeBeside (old : Database) (new : State) : Type 0 where
  pub kept : Keeps old new.now
  pub fresh : KnowsRegistry InTables new.now.schema → IsEmptyBeside (beside_in new.now) → IsNew InTables new

-- the same once it is committed: there they stand for the empty world
pub record IsOpenedBeside (old : Database) (new : State) : Type 0 where
  pub kept : Keeps old new.now
  pub stands : KnowsRegistry InTables new.now.schema → IsEmptyBeside (beside_in new.now)
      → SettlesOn InTables new no_world
