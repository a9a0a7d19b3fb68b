-- What a registry file of schema 1 holds.
use Rattle.std.specs.Prelude.{◌≡◌}
use Rattle.sqlite.specs.Effect.{Database}
use Rattle.registry_model.specs.World.{World}
use Rattle.store_schema.specs.Schema.{version_table}
use Rattle.store_schema.specs.OldSchema.{old_schema, old_blobs_table, old_manifests_table, old_sessions_table}
use Rattle.store_schema.specs.Layout.{rows_of}
use Rattle.store_schema.specs.Rows.{HaveIds}
use Rattle.store_contents.specs.Layouts.{InTables}
use Rattle.store_statements.specs.Held.{tables_in}
use Rattle.store_migration.specs.OldTables.{OldTables, IsOldRegistry}
use Rattle.store_migration.specs.OldWorld.{old_world}

-- the rows of the tables that only schema 1 has
abbrev pub olds_in : Database → OldTables
olds_in db = record {
  blobs = rows_of db old_blobs_table;
  manifests = rows_of db old_manifests_table;
  sessions = rows_of db old_sessions_table;
}

-- the tables of schema 1 and no other, which stand for a world
pub record HoldsOldRegistry (db : Database) : Type 0 where
  pub schema : db.schema ≡ old_schema
  pub version : HaveIds (rows_of db version_table)
  pub registry : IsOldRegistry (olds_in db) (tables_in InTables db)

abbrev pub old_world_in : Database → World
old_world_in db = old_world (olds_in db) (tables_in InTables db)
