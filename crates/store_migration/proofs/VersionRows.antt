-- What the statement that raises the version makes of the tables.
use Rattle.std.proofs.Common.{◌≡◌, ◌∙◌, ℕ, ℤ, List, [], ◌∷◌, true, pos, Ok, Err, Result, OnOk, refl, sym, ap, subst}
use Rattle.std.specs.Prelude.{filter, find}
use Rattle.std.specs.Option.{option_to_list}
use Rattle.sqlite.specs.declared.types.Value.TheVariants.{Int}
use Rattle.sqlite.specs.declared.error.Error.{Error}
use Rattle.sqlite.specs.Order.{Row}
use Rattle.sqlite.specs.Cast.{cast_row}
use Rattle.sqlite.specs.Ops.{unary}
use Rattle.sqlite.specs.Schema.{Schema}
use Rattle.sqlite.specs.Term.{lit, col}
use Rattle.sqlite.specs.Tree.{rowid}
use Rattle.sqlite.specs.State.{State, Executes, ExecutesInside}
use Rattle.sqlite_rules.specs.Edit.{id_in}
use Rattle.store_schema.specs.Schema.{version_table}
use Rattle.store_schema.specs.Layout.{tree_of, placed}
use Rattle.store_schema.proofs.Ids.{rowid_is}
use Rattle.store_schema.proofs.Writes.{passes, either, updates, keeps_others}
use Rattle.store_schema.proofs.Updates.{sets, Sets}
use Rattle.store_contents.specs.Layouts.{InTables}
use Rattle.store_statements.specs.Tables.{Tables, AreTables}
use Rattle.store_statements.specs.Changes.{changed}
use Rattle.store_statements.specs.Known.{KnowsRegistry}
use Rattle.store_statements.specs.Held.{held, tables_in, HoldsTables, Becomes}
use Rattle.store_statements.proofs.OtherTables.{only_version, contents_beside_version}
use Rattle.store_migration.specs.OldTables.{IsOfSchemaOne}
use Rattle.store_migration.specs.Moves.{with_version_two}
use Rattle.store_migration.specs.OldTexts.{version_raise}
use Rattle.store_migration.specs.Olds.{HasOlds}

cast_two : (schema : Schema) (id : ℤ) → cast_row (placed schema version_table) (Int id ∷ Int (pos 2) ∷ []) ≡ Int id ∷ Int (pos 2) ∷ []
unfolding unary
cast_two schema id = rw (either, either)

cast_raised : (schema : Schema) (r : Row) → rowid r ≡ Int (id_in (rowid r)) → cast_row (placed schema version_table) (with_version_two r) ≡ with_version_two r
cast_raised schema r id = rw id (cast_two schema _)

-- there is one row
one_row : (rows : List Row) → IsOfSchemaOne rows → filter (passes [] []) rows ≡ option_to_list (find (passes [] []) rows)
one_row [] one = absurd cc
one_row (r ∷ []) one = refl
one_row (r ∷ s ∷ rows) one = absurd cc

same_tables : (t : Tables) (rows : List Row) → AreTables t → AreTables (record t { version = rows })
same_tables t rows a = record { repos = a.repos; grants = a.grants; tags = a.tags; blobs = a.blobs; manifests = a.manifests; uploads = a.uploads; pieces = a.pieces }

raised : (old new : State) (n : ℕ) → HoldsTables InTables old.now → HasOlds (held InTables old) → IsOfSchemaOne (held InTables old).version → Executes version_raise [] old new (Ok n)
    → (held InTables new ≡ record (held InTables old) { version = changed (λ r. true) with_version_two (held InTables old).version }) × HoldsTables InTables new.now
raised old new n h o one ran =
    let schema = old.now.schema in
    let table = placed schema version_table in
    let it : Sets schema table (passes [] []) with_version_two old new n = sets schema table [] (col 1 0 ∷ col 1 0 ∷ lit (Int (pos 2)) ∷ []) [] with_version_two old new n o.version (one_row _ one) (λ r. refl) (λ r. refl)
    (λ r has e. cast_raised schema r (rowid_is _ r o.version has)) (h.known.still (tree_of schema version_table))
    (updates schema o.known.version.at table o.known.version.place o.known.version.stored version_raise [] [] old new refl n ran _ o.known.raise) in
    let keeps = keeps_others version_table old.now new.now (tree_of schema version_table) refl it.ran.schema_is it.tables in
    let now = only_version old.now new.now h.known keeps _ (ap (λ s. new.now.trees (tree_of s version_table)) it.ran.schema_is ∙ it.rows) in (
      now,
      record {
        known = subst (KnowsRegistry InTables) (sym keeps.schema) h.known;
        contents = contents_beside_version old.now new.now h.known keeps h.contents;
        tables = subst AreTables (sym now) (same_tables (tables_in InTables old.now) _ h.tables);
      },
    )

pub raised_by : (old new : State) (r : Result ℕ Error) → HoldsTables InTables old.now → HasOlds (held InTables old) → IsOfSchemaOne (held InTables old).version → ExecutesInside 0 version_raise [] old new r
    → OnOk r (Becomes InTables new (record (held InTables old) { version = changed (λ r. true) with_version_two (held InTables old).version }))
raised_by old new (Err e) h o one ran = tt
raised_by old new (Ok n) h o one ran = let it = raised old new n h o one ran.0 in (record { inside = ran.1.mode; holds = it.1 }, it.0)
