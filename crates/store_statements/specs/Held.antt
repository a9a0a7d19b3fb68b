-- The tables of a database, and what a store's connection is between and inside its transactions. Each is
-- said of a layout: of where bytes are kept.
use Rattle.std.specs.Prelude.{◌≡◌, ◌⊎◌, Bool, true, false, pos, [], None, IsTrue, Result, Ok, Err}
use Rattle.sqlite.specs.Effect.{Database}
use Rattle.sqlite.specs.Tree.{Trees}
use Rattle.sqlite.specs.State.{State, IsUnchanged, IsRolledBack}
use Rattle.oci_types.specs.declared.fault.Fault.{Fault}
use Rattle.oci_types.specs.declared.fault.Fault.TheVariants.{Memory, Storage}
use Rattle.registry_model.specs.World.{World}
use Rattle.store_schema.specs.Schema.{version_table, repos_table, grants_table, tags_table, blob_links_table, manifest_links_table, uploads_table, pieces_table}
use Rattle.store_schema.specs.Layout.{rows_of}
use Rattle.store_contents.specs.Layouts.{Layout, Holds, contents_in, places_in, packs_in, schema_number}
use Rattle.store_statements.specs.Tables.{Tables, Beside, AreTables}
use Rattle.store_statements.specs.Registry.{Agree}
use Rattle.store_statements.specs.World.{world_of}
use Rattle.store_statements.specs.Known.{KnowsRegistry, trees_of, rows_beside}

abbrev pub beside_in : Database → Beside
beside_in db = record {
  schema = db.schema;
  rows = rows_beside db.trees (trees_of db.schema) db.schema.tables;
}

abbrev pub tables_in : Layout → Database → Tables
tables_in l db = record {
  number = schema_number l;
  version = rows_of db version_table;
  repos = rows_of db repos_table;
  grants = rows_of db grants_table;
  tags = rows_of db tags_table;
  contents = contents_in l db;
  places = places_in l db;
  packs = packs_in l db;
  blobs = rows_of db blob_links_table;
  manifests = rows_of db manifest_links_table;
  uploads = rows_of db uploads_table;
  pieces = rows_of db pieces_table;
  beside = beside_in db;
}

-- the schema is known, contents are kept once, and each row is of its table
pub record HoldsTables (l : Layout) (db : Database) : Type 0 where
  pub known : KnowsRegistry l db.schema
  pub contents : Holds l db
  pub tables : AreTables (tables_in l db)

-- inside a transaction
pub record IsReady (l : Layout) (s : State) : Type 0 where
  pub inside : IsTrue s.in_transaction
  pub holds : HoldsTables l s.now

-- between transactions: open, with nothing uncommitted, and the tables stand for a world
pub record IsSettled (l : Layout) (s : State) : Type 0 where
  pub is_open : IsTrue s.is_open
  pub autocommit : s.in_transaction ≡ false
  pub committed : s.now ≡ s.committed
  pub holds : HoldsTables l s.now
  pub agree : Agree (tables_in l s.now)

-- the world of the tables now
abbrev pub world_in : Layout → State → World
world_in l s = world_of (tables_in l s.now)

-- settled, with the same database
abbrev pub StaysSettled : Layout → State → State → Type 0
StaysSettled l old new = IsSettled l new × (new.now ≡ old.now)

abbrev pub held : Layout → State → Tables
held l s = tables_in l s.now

-- inside a transaction, and the tables are these
abbrev pub Becomes : Layout → State → Tables → Type 0
Becomes l s t = IsReady l s × (held l s ≡ t)

-- what a statement that failed leaves
abbrev pub LeavesAsWas : State → State → Type 0
LeavesAsWas old new = IsUnchanged old new ⊎ IsRolledBack old new

abbrev pub is_storage : {A : Type 0} → Result A Fault → Bool
is_storage (Ok v) = false
is_storage (Err Memory) = false
is_storage (Err Storage) = true

-- a transaction was committed, and the tables are these
pub record Commits (l : Layout) (s : State) (t : Tables) : Type 0 where
  pub is_open : IsTrue s.is_open
  pub autocommit : s.in_transaction ≡ false
  pub committed : s.now ≡ s.committed
  pub holds : HoldsTables l s.now
  pub tables : held l s ≡ t

-- where the connection is open, the tables are what they were
abbrev pub IsBack : State → State → Type 0
IsBack old new = IsTrue new.is_open → (new.now ≡ old.now) × (new.committed ≡ old.committed)

-- where the connection is open its database is what it was, and so is what a crash leaves
pub record IsKept (old new : State) : Type 0 where
  pub back : IsBack old new
  pub crash : (db : Trees) → new.may_leave db → db ≡ old.now.trees

-- the database with these trees
abbrev pub with_trees : Database → Trees → Database
with_trees db trees = record db { trees = trees }

-- a connection that was opened over this database
abbrev pub reopened : Database → State
reopened db = record {
  now = db;
  committed = db;
  in_transaction = false;
  marks = [];
  is_open = true;
  is_clean = true;
  faults = 0;
  blamed = None;
  changes = 0;
  last_rowid = pos 0;
  step_limit = None;
  may_leave = λ trees. trees ≡ db.trees;
  IsShielded = Unit {0};
}

-- settled, and the tables stand for this world
abbrev pub SettlesOn : Layout → State → World → Type 0
SettlesOn l s w = IsSettled l s × (world_in l s ≡ w)
