-- Where a table stands in a schema, and what a text means over it. A registry's tables may stand anywhere
-- among others: each definition goes by the table's name.
use Rattle.std.specs.Prelude.{◌≡◌, ◌≢◌, ◌^◌, ℕ, pos, negsuc, false, List, [], nat_le, slice_get, Option, None, Some, option_map, option_and_then, unwrap_or, Result, Ok, Err}
use Rattle.std.specs.List.{AllByRecursion}
use Rattle.sqlite.specs.Collation.TheVariants.{Binary}
use Rattle.sqlite.specs.declared.types.Value.TheVariants.{Int}
use Rattle.sqlite.specs.Order.{Row}
use Rattle.sqlite.specs.Table.{Table}
use Rattle.sqlite.specs.Schema.{Schema}
use Rattle.sqlite.specs.Term.{Term, lit, col, op2}
use Rattle.sqlite.specs.Query.{Query, inner, end}
use Rattle.sqlite.specs.Command.{Command}
use Rattle.sqlite.specs.Effect.{Database}
use Rattle.sqlite.specs.Given.{IsPlain}
use Rattle.sqlite.specs.Listing.{understood, reads_listing}
use Rattle.sqlite_schema.specs.Names.{table_named}
use Rattle.sqlite_schema.specs.declared.schema.Keys.TheVariants.{Enforced}
use Rattle.sqlite_rules.specs.Action.{works}
use Rattle.sqlite_sql.specs.declared.ops.BinaryOp.TheVariants.{Compare}
use Rattle.sqlite_sql.specs.declared.ops.CompareOp.TheVariants.{Eq}

-- the tree of the table of this name
abbrev pub tree_of : Schema → Table → ℕ
tree_of schema table =
    unwrap_or
    (option_map (λ (t : Table). t.tree)
    (option_and_then (slice_get schema.tables) (table_named schema table.name)))
    0

-- the table as the schema has it
abbrev pub placed : Schema → Table → Table
placed schema table = record table { tree = tree_of schema table }

-- its rows
abbrev pub rows_of : Database → Table → List Row
rows_of db table = db.trees (tree_of db.schema table)

-- the schema has the table, in a tree of the database's own
pub record Stands (schema : Schema) (table : Table) : Type 0 where
  pub at : ℕ
  pub place : slice_get schema.tables at ≡ Some (placed schema table)
  pub stored : nat_le (2 ^ 31) (tree_of schema table) ≡ false

-- no row goes with a row of the table
abbrev pub IsUnreferred : Schema → Table → Type 0
IsUnreferred schema table = (olds : List Row) → works schema Enforced 0 (tree_of schema table) olds [] ≡ []

-- the schema stays, and each of its tables but this one has its rows
pub record KeepsOthers (table : Table) (old new : Database) : Type 0 where
  pub schema : new.schema ≡ old.schema
  pub tables : AllByRecursion
      (λ (t : Table). t.tree ≢ tree_of old.schema table → new.trees t.tree ≡ old.trees t.tree)
      old.schema.tables

-- ---- texts

abbrev pub command_in : {E C : Type 0} → (C → Command) → Result C E → Option Command
command_in f (Ok c) = Some (f c)
command_in f (Err e) = None

-- over the schema the text is this command, and reads neither the list of tables nor the clock
pub record Means (schema : Schema) (text : List ℕ) (command : Command) : Type 0 where
  pub is : command_in (λ c. c.command) (understood schema text) ≡ Some command
  pub plain : IsPlain (understood schema text)
  pub unlisted : reads_listing schema text ≡ false

-- the column of the one table is the parameter
abbrev pub equals : ℕ → ℕ → Term
equals place param = op2 (Compare Eq Binary) (col 1 place) (col 0 param)

-- the rows of one table at which each term holds, in any order
abbrev pub select_from : ℕ → List Term → List Term → Query
select_from tree filter project = record {
  from = inner tree end;
  filter = filter;
  group = None;
  project = project;
  distinct = false;
  collations = [];
  order = [];
  limit = lit (Int (negsuc 0));
  offset = lit (Int (pos 0));
}
