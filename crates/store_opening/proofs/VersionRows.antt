-- What the statement on the version makes of the tables.
use Rattle.std.proofs.Common.{◌≡◌, ◌∙◌, ℕ, List, [], ◌∷◌, pos, Ok, Err, Result, OnOk, sym, ap, subst, refl}
use Rattle.sqlite.specs.declared.types.Value.TheVariants.{Null, Int}
use Rattle.sqlite.specs.declared.error.Error.{Error}
use Rattle.sqlite.specs.Order.{Row}
use Rattle.sqlite.specs.Cast.{cast_row}
use Rattle.sqlite.specs.Ops.{unary}
use Rattle.sqlite.specs.Schema.{Schema}
use Rattle.sqlite.specs.Table.{Table}
use Rattle.sqlite.specs.Term.{lit}
use Rattle.sqlite.specs.State.{State, ExecutesInside}
use Rattle.store_schema.specs.Schema.{version_table}
use Rattle.store_schema.specs.Layout.{tree_of, placed, rows_of}
use Rattle.store_schema.proofs.Writes.{either, inserts, adds_row, AddsRow, keeps_others}
use Rattle.store_contents.specs.Layouts.{InTables}
use Rattle.store_statements.specs.Tables.{AreTables}
use Rattle.store_statements.specs.VersionTexts.{version_add}
use Rattle.store_statements.specs.Known.{KnowsRegistry}
use Rattle.store_statements.specs.Held.{held, IsReady}
use Rattle.store_statements.specs.Steps.{VersionComes}
use Rattle.store_statements.proofs.OtherTables.{only_version, contents_beside_version}

cast_version : (schema : Schema) → cast_row (placed schema version_table) (Null ∷ Int (pos 2) ∷ []) ≡ Null ∷ Int (pos 2) ∷ []
unfolding unary
cast_version schema = rw (either, either)

-- whatever else is in the tables, they stay as they are
same_tables : (t : Rattle.store_statements.specs.Tables.Tables) (rows : List Row) → AreTables t → AreTables (record t { version = rows })
same_tables t rows a = record { repos = a.repos; grants = a.grants; tags = a.tags; blobs = a.blobs; manifests = a.manifests; uploads = a.uploads; pieces = a.pieces }

pub version_by : (old new : State) (r : Result ℕ Error) → IsReady InTables old → ExecutesInside 0 version_add [] old new r → OnOk r (VersionComes InTables old new)
version_by old new (Err e) is ran = tt
version_by old new (Ok n) is ran = record {
  ready = record { inside = ran.1.mode; holds = record { known = subst (KnowsRegistry InTables) (sym it.ran.schema_is) is.holds.known; contents = contents_beside_version old.now new.now is.holds.known keeps is.holds.contents; tables = subst AreTables (sym now) (same_tables (held InTables old) _ is.holds.tables) } };
  id = new.last_rowid;
  puts = record { before = it.puts.before; after = it.puts.after; olds_are = it.puts.olds_are; news_are = ap (λ s. new.now.trees (tree_of s version_table)) it.ran.schema_is ∙ it.puts.news_are };
  others = now;
}
  where
    schema : Schema
    schema = old.now.schema

    table : Table
    table = placed schema version_table

    it : AddsRow schema table (Int (pos 2) ∷ []) old new
    it = adds_row schema table (Int (pos 2) ∷ []) old new (cast_version schema)
        (inserts schema is.holds.known.version.at table is.holds.known.version.place version_add [] old new refl refl refl (lit Null ∷ lit (Int (pos 2)) ∷ []) 2 is.holds.known.version_texts.add n ran.0)

    keeps : Rattle.store_schema.specs.Layout.KeepsOthers version_table old.now new.now
    keeps = keeps_others version_table old.now new.now (tree_of schema version_table) refl it.ran.schema_is it.tables

    now : held InTables new ≡ record (held InTables old) { version = (held InTables new).version }
    now = only_version old.now new.now is.holds.known keeps (rows_of new.now version_table) refl
