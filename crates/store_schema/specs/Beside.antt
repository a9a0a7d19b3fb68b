-- What the texts of the schema make of a database, whatever else it has.
use Rattle.std.specs.Prelude.{◌≡◌, ◌≢◌, ◌++◌, ℕ, true, false, List, [], ◌∷◌, slice_range, slice_get, Option, Some, None, Result, Ok, Err}
use Rattle.std.specs.List.{AllByRecursion}
use Rattle.sqlite.specs.Table.{Table}
use Rattle.sqlite.specs.Schema.{Schema}
use Rattle.sqlite.specs.Change.{KeepsRows}
use Rattle.sqlite.specs.Effect.{Database}
use Rattle.sqlite_ast.specs.declared.Statement.{Statement}
use Rattle.sqlite_ast.specs.declared.Statement.TheVariants as written
use Rattle.sqlite_syntax.specs.declared.statement.Parsed.{Parsed}
use Rattle.sqlite_resolve.specs.declared.error.CompileError.{CompileError}
use Rattle.sqlite_resolve.specs.Define as define
use Rattle.sqlite_resolve.specs.Compile.{first, table_defined_by}
use Rattle.sqlite_catalog.specs.Change.{is_used}
use Rattle.sqlite_schema.specs.Names.{same_name, table_named}
use Rattle.store_schema.specs.Schema.{version_table, repos_table, grants_table, tags_table, contents_table, blob_links_table, manifest_links_table, uploads_table, pieces_table, subject_index, sha256_index}

-- ---- what a text makes over any schema

abbrev pub name_in : Result Table CompileError → Option (List ℕ)
name_in (Ok t) = Some t.name
name_in (Err e) = None

-- the statement makes a table or an index of this name, and fails where there is one
abbrev pub makes_named : List ℕ → List (List ℕ) → Statement → Type 0
makes_named name formats (written.CreateTable def) =
    (def.if_missing ≡ false) × (name_in (define.table formats def) ≡ Some name)
makes_named name formats (written.CreateIndex def) = (def.if_missing ≡ false) × (def.name ≡ name)
makes_named name formats _ = ⊥

abbrev pub reads_as_making : List ℕ → List ℕ → Result Parsed CompileError → Type 0
reads_as_making text name (Ok p) =
    (p.formats ≡ []) × (slice_range text p.start p.end ≡ text) × makes_named name p.formats p.statement
reads_as_making text name (Err e) = ⊥

-- the text is such a statement, and nothing else
abbrev pub MakesNamed : List ℕ → List ℕ → Type 0
MakesNamed text name = reads_as_making text name (first text)

-- it makes the table
pub record MakesOne (text : List ℕ) (table : Table) : Type 0 where
  pub named : MakesNamed text table.name
  pub defined : table_defined_by text ≡ Ok table
  pub itself : same_name table.name table.name ≡ true

-- ---- what it leaves

abbrev pub IsFront : {A : Type 0} → List A → List A → Type 0
IsFront {A} xs ys = (more : List A) × (ys ≡ xs ++ more)

-- each table, index and view stays, and each table with its rows; others may come
pub record Keeps (old new : Database) : Type 0 where
  pub tables : IsFront old.schema.tables new.schema.tables
  pub indexes : IsFront old.schema.indexes new.schema.indexes
  pub views : new.schema.views ≡ old.schema.views
  pub rows : KeepsRows old.schema.tables old.trees new.trees

-- no table, index or view has one of the names, in letters of either case
abbrev pub AreFree : Schema → List (List ℕ) → Type 0
AreFree schema names = AllByRecursion (λ name. is_used schema name ≡ false) names

-- the table stands under its name, without rows, in a tree that none of the tables before has
pub record IsNewBeside (before : List Table) (db : Database) (table : Table) : Type 0 where
  pub at : ℕ
  pub named : table_named db.schema table.name ≡ Some at
  pub tree : ℕ
  pub place : slice_get db.schema.tables at ≡ Some (record table { tree = tree })
  pub empty : db.trees tree ≡ []
  pub apart : AllByRecursion (λ (t : Table). t.tree ≢ tree) before

-- none of the names was taken, the tables are new, and all that was there stays
pub record Comes (names : List (List ℕ)) (tables : List Table) (old new : Database) : Type 0 where
  pub free : AreFree old.schema names
  pub kept : Keeps old new
  pub made : AllByRecursion (IsNewBeside old.schema.tables new) tables

-- ---- a registry's names

abbrev pub shared_names : List (List ℕ)
shared_names = version_table.name ∷ repos_table.name ∷ grants_table.name ∷ tags_table.name ∷ []

abbrev pub shared_ones : List Table
shared_ones = version_table ∷ repos_table ∷ grants_table ∷ tags_table ∷ []

abbrev pub link_names : List (List ℕ)
link_names = contents_table.name ∷ blob_links_table.name ∷ manifest_links_table.name ∷ []

abbrev pub link_ones : List Table
link_ones = contents_table ∷ blob_links_table ∷ manifest_links_table ∷ []

abbrev pub upload_names : List (List ℕ)
upload_names = uploads_table.name ∷ pieces_table.name ∷ sha256_index.name ∷ subject_index.name ∷ []

abbrev pub upload_ones : List Table
upload_ones = uploads_table ∷ pieces_table ∷ []

-- of the five tables and two indexes that only schema 2 has
abbrev pub names_of_two : List (List ℕ)
names_of_two = link_names ++ upload_names

abbrev pub tables_of_two : List Table
tables_of_two = link_ones ++ upload_ones

-- the names of its nine tables and of its two indexes
abbrev pub registry_names : List (List ℕ)
registry_names = shared_names ++ names_of_two

abbrev pub registry_tables : List Table
registry_tables = shared_ones ++ tables_of_two
