-- What the tables are once every row is moved and the version is raised.
use Rattle.std.specs.Prelude.{◌≡◌, length}
use Rattle.registry_model.specs.World.{World}
use Rattle.store_statements.specs.Tables.{Tables}
use Rattle.store_statements.specs.Registry.{IsRegistry}
use Rattle.store_statements.specs.World.{world_of}
use Rattle.store_migration.specs.OldTables.{OldTables}
use Rattle.store_migration.specs.Both.{world_of_both}
use Rattle.store_migration.specs.Olds.{old_of}
use Rattle.store_migration.specs.declared.rewrite.MovedRows.{MovedRows}

-- a registry's tables of schema 2, which stand for this world
pub record StandsFor (t : Tables) (w : World) : Type 0 where
  pub world : world_of t ≡ w
  pub registry : IsRegistry t

-- they stand for the world that the rows of both schemas stood for
abbrev pub Rewrites : Tables → Tables → Type 0
Rewrites t u = StandsFor u (world_of_both (old_of t) t)

-- how many rows the tables of schema 1 have
abbrev pub counts : OldTables → MovedRows
counts old = record {
  blobs = length old.blobs;
  manifests = length old.manifests;
  sessions = length old.sessions;
}
