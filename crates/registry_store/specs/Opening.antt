-- What a database is that a store is opened on: nothing yet, or a registry's tables (profile).
use Rattle.std.specs.Prelude.{◌≡◌, ◌⊎◌}
use Rattle.sqlite.specs.Effect.{Database, IsDatabase}
use Rattle.sqlite.specs.Files.{HoldsDatabase, AreFoundIn}
use Rattle.sqlite_wal.specs.Recovery.{Image}
use Rattle.sqlite_trees.specs.Tree.{Trees}
use Rattle.store_contents.specs.Layouts.{InTables}
use Rattle.store_schema.specs.Schema.{no_schema}
use Rattle.store_schema.specs.Making.{IsEmptyWith}
use Rattle.store_statements.specs.World.{world_of}
use Rattle.registry_model.specs.World.{no_world}
use Rattle.store_statements.specs.Held.{tables_in}
use Rattle.store_opening.specs.Opening.{HoldsRegistry}

-- no table at all, or a registry
abbrev pub IsOurs : Database → Type 0
IsOurs db = IsEmptyWith no_schema db ⊎ HoldsRegistry db

-- an open may find these trees in the files
pub record MayFind (image : Image) (trees : Trees) : Type 0 where
  pub holds : (db : Trees) → HoldsDatabase image db → trees ≡ db
  pub reads : AreFoundIn image trees

-- whatever database an open finds in the files, it is none yet or a registry
abbrev pub WereOurs : Image → Type 0
WereOurs image = (db : Database) → IsDatabase db → MayFind image db.trees → IsOurs db

-- the tables of a store that was opened on the files: those of a database that was found there, or new ones
-- that stand for the empty world
abbrev pub OpensOn : Image → Database → Type 0
OpensOn image now = (db : Database) × IsDatabase db × MayFind image db.trees
    × (IsEmptyWith no_schema db → world_of (tables_in InTables now) ≡ no_world)
    × (HoldsRegistry db → now ≡ db)
