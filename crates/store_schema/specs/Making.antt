-- What the texts of the schema make.
use Rattle.std.specs.Prelude.{◌≡◌, ◌≢◌, ℕ, false, List, [], slice_range, Option, Some, None, Result, Ok, Err}
use Rattle.std.specs.List.{AllByRecursion}
use Rattle.sqlite.specs.Table.{Table}
use Rattle.sqlite.specs.Schema.{Schema}
use Rattle.sqlite_schema.specs.declared.schema.Index.{Index}
use Rattle.sqlite.specs.Compile.{table_defined_by, index_defined_by}
use Rattle.sqlite.specs.Change.{created, indexed, next_tree, KeepsRows}
use Rattle.sqlite.specs.declared.error.Error.{Error}
use Rattle.sqlite.specs.declared.error.Error.TheVariants.{SqliteFailure, SqlInputError}
use Rattle.sqlite.specs.declared.error.ErrorCode.TheVariants.{NameTaken}
use Rattle.sqlite_catalog.specs.Change.{is_used, automatics}
use Rattle.sqlite.specs.Command.TheVariants.{CreateTable, CreateIndex}
use Rattle.sqlite.specs.Does.{lacks_sequence}
use Rattle.sqlite.specs.Effect.{Database}
use Rattle.sqlite.specs.Listing.{understood}
use Rattle.sqlite_resolve.specs.declared.compiled.Compiled.{Compiled}
use Rattle.sqlite_resolve.specs.declared.error.CompileError.{CompileError}
use Rattle.store_schema.specs.Layout.{Means}
use Rattle.store_schema.specs.Schema.{no_schema, version_table, repos_table, grants_table, tags_table, contents_table, blob_links_table, manifest_links_table}
use Rattle.std.specs.Prelude.{slice_get}

-- the whole text is the statement
abbrev pub statement_in : List ℕ → Result Compiled CompileError → Option (List ℕ)
statement_in text (Ok c) = Some (slice_range text c.start c.end)
statement_in text (Err e) = None

-- over the schema the text makes the table
pub record MakesTable (schema : Schema) (text : List ℕ) (table : Table) : Type 0 where
  pub means : Means schema text CreateTable
  pub whole : statement_in text (understood schema text) ≡ Some text
  pub defined : table_defined_by text ≡ Ok table
  pub uncounted : lacks_sequence (created schema table) ≡ false
  -- its name is free, and so are those of the indexes that come with its keys
  pub free : is_used schema table.name ≡ false
  pub free_keys : AllByRecursion (λ (i : Index). is_used schema i.name ≡ false)
      (automatics table 0 0 table.uniques)

-- over the schema the text makes the index, on the table at this place
pub record MakesIndex (schema : Schema) (text : List ℕ) (at : ℕ) (table : Table) (index : Index) :
    Type 0 where
  pub means : Means schema text (CreateIndex at)
  pub whole : statement_in text (understood schema text) ≡ Some text
  pub place : slice_get schema.tables at ≡ Some table
  pub defined : index_defined_by table text ≡ Ok index
  pub free : is_used schema index.name ≡ false

-- the table stands behind those of the schema, without rows, and they keep theirs
pub record Grows (schema : Schema) (table : Table) (old new : Database) : Type 0 where
  pub schema_is : new.schema ≡ created schema table
  pub empty : new.trees (next_tree schema) ≡ []
  pub kept : KeepsRows schema.tables old.trees new.trees

-- the index stands behind those of the schema, and its tables keep their rows
pub record GrowsIndex (schema : Schema) (table : Table) (index : Index) (old new : Database) : Type 0 where
  pub schema_is : new.schema ≡ indexed schema table index
  pub kept : KeepsRows schema.tables old.trees new.trees

-- the schema, and no row in any of its tables
pub record IsEmptyWith (schema : Schema) (db : Database) : Type 0 where
  pub schema_is : db.schema ≡ schema
  pub empty : AllByRecursion (λ (t : Table). db.trees t.tree ≡ []) schema.tables

-- the texts were understood, and no name was taken
abbrev pub IsOther : Error → Type 0
IsOther e = (e ≢ SqliteFailure NameTaken) × ((cause : CompileError) → e ≢ SqlInputError cause)

-- ---- on the way

abbrev pub shared_tables : Schema
shared_tables =
    created (created (created (created no_schema version_table) repos_table) grants_table) tags_table

abbrev pub linked_tables : Schema
linked_tables = created (created (created shared_tables contents_table) blob_links_table) manifest_links_table
