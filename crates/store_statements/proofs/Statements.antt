-- What a statement that writes one table makes of all of them.
use Rattle.std.proofs.Common.{◌≡◌, ◌∙◌, inl, inr, ℕ, ℤ, List, [], ◌∷◌, Bool, true, false, not, length, Ok, sym, ap, subst, refl}
use Rattle.std.specs.Prelude.{filter, find, ◌/◌}
use Rattle.std.specs.List.{AllByRecursion}
use Rattle.std.specs.Option.{option_to_list}
use Rattle.sqlite.specs.declared.types.Value.TheVariants.{Null, Int}
use Rattle.sqlite.specs.Order.{Row, column}
use Rattle.sqlite.specs.Cast.{cast_row}
use Rattle.sqlite.specs.Table.{Table}
use Rattle.sqlite.specs.Schema.{Schema}
use Rattle.sqlite.specs.Term.{Term, col, eval_all}
use Rattle.sqlite.specs.Tree.{rowid}
use Rattle.sqlite.specs.Rows.{stamped}
use Rattle.sqlite.specs.Source.TheVariants.{Values}
use Rattle.sqlite.specs.Command.TheVariants.{Delete, Insert, Update}
use Rattle.sqlite.specs.Effect.{Database, value_rows}
use Rattle.sqlite.specs.State.{State, Executes}
use Rattle.sqlite_rules.specs.Lists.{Has}
use Rattle.sqlite_rules.specs.Edit.{id_in}
use Rattle.sqlite_trees.proofs.ListLemmas.{filter_same, all_weaker}
use Rattle.store_schema.specs.Rows.{HaveIds}
use Rattle.store_schema.specs.Layout.{rows_of, tree_of, placed, Stands, Means, IsUnreferred, KeepsOthers, select_from}
use Rattle.store_schema.proofs.Ids.{rowid_is}
use Rattle.store_schema.proofs.Lists.{only_one}
use Rattle.store_schema.proofs.Writes.{passes, deletes, removes, Removes, inserts, adds_row, AddsRow, updates, keeps_others}
use Rattle.store_schema.proofs.Updates.{sets, Sets}
use Rattle.store_contents.specs.Layouts.{Layout, Holds}
use Rattle.store_statements.specs.Tables.{Tables, AreTables, AreRows}
use Rattle.store_statements.specs.Changes.{without, changed, Comes}
use Rattle.store_statements.specs.Known.{KnowsRegistry}
use Rattle.store_statements.specs.Held.{tables_in, HoldsTables}
use Rattle.store_statements.proofs.AreRows.{rows_without, rows_with, rows_changed}

-- a table's place among the tables
module _ {l : Layout} (table : Table) (Is : Row → Type 0) (same : Row → Row → Bool) (put : Tables → List Row → Tables)
    (stands : (schema : Schema) → KnowsRegistry l schema → Stands schema table)
    (only : (old new : Database) → KnowsRegistry l old.schema → KeepsOthers table old new → (rows : List Row) → rows_of new table ≡ rows → tables_in l new ≡ put (tables_in l old) rows)
    (beside : (old new : Database) → KnowsRegistry l old.schema → KeepsOthers table old new → Holds l old → Holds l new)
    (are : (db : Database) → AreTables (tables_in l db) → AreRows Is same (rows_of db table))
    (put_are : (t : Tables) (rows : List Row) → AreTables t → AreRows Is same rows → AreTables (put t rows)) where
  after : (old new : Database) (rows : List Row) → HoldsTables l old → KeepsOthers table old new → rows_of new table ≡ rows → AreRows Is same rows → (tables_in l new ≡ put (tables_in l old) rows) × HoldsTables l new
  after old new rows h keeps e are_rows =
      let now = only old new h.known keeps rows e in
      (now, record { known = subst (KnowsRegistry l) (sym keeps.schema) h.known; contents = beside old new h.known keeps h.contents; tables = subst AreTables (sym now) (put_are (tables_in l old) rows h.tables are_rows) })

  -- rows that are gone
  pub taken : (terms : List Term) (params : Row) (p : Row → Bool) (old new : State) → HoldsTables l old.now → ((r : Row) → Is r → passes params terms r ≡ p r)
      → Removes old.now.schema (placed old.now.schema table) (passes params terms) old new
      → (tables_in l new.now ≡ put (tables_in l old.now) (without p (rows_of old.now table))) × HoldsTables l new.now
  taken terms params p old new h test it =
      let schema = old.now.schema in
      let rows = are old.now h.tables in
      after old.now new.now _ h (keeps_others table old.now new.now (tree_of schema table) refl it.ran.schema_is it.tables)
      (ap (λ s. new.now.trees (tree_of s table)) it.ran.schema_is ∙ it.rows ∙ filter_same _ _ _ (all_weaker Is _ (λ r is. ap not (test r is)) (rows_of old.now table) rows.types))
      (rows_without Is same p _ rows)

  -- a DELETE
  pub takes : (text : List ℕ) (terms : List Term) (params : Row) (p : Row → Bool) (old new : State) (n : ℕ) → (h : HoldsTables l old.now) → IsUnreferred old.now.schema table
      → Means old.now.schema text (Delete (stands old.now.schema h.known).at (record { lets = []; body = select_from (tree_of old.now.schema table) terms (col 1 0 ∷ []) }))
      → ((r : Row) → Is r → passes params terms r ≡ p r) → Executes text params old new (Ok n)
      → (tables_in l new.now ≡ put (tables_in l old.now) (without p (rows_of old.now table))) × HoldsTables l new.now
  takes text terms params p old new n h alone means test ran =
      let schema = old.now.schema in
      let at = stands schema h.known in
      let rows = are old.now h.tables in
      taken terms params p old new h test (removes schema (placed schema table) terms params old new n rows.ids alone (deletes schema at.at (placed schema table) at.place at.stored text terms params old new refl n ran means))

  -- an INSERT of one row under a fresh key
  pub comes : (text : List ℕ) (terms : List Term) (width : ℕ) (params columns : Row) (old new : State) (n : ℕ) → (h : HoldsTables l old.now)
      → Means old.now.schema text (Insert (stands old.now.schema h.known).at (Values terms width)) → table.is_counted ≡ false → stamped (placed old.now.schema table) params ≡ params
      → value_rows params width (length terms / width) terms ≡ (Null ∷ columns) ∷ [] → cast_row (placed old.now.schema table) (Null ∷ columns) ≡ Null ∷ columns
      → ((id : ℤ) → Is (Int id ∷ columns)) → ((a b : Row) → same a b ≡ same b a) → ((id : ℤ) → AllByRecursion (λ r. same (Int id ∷ columns) r ≡ false) (rows_of old.now table))
      → Executes text params old new (Ok n)
      → Comes (rows_of old.now table) (rows_of new.now table) columns × (tables_in l new.now ≡ put (tables_in l old.now) (rows_of new.now table)) × HoldsTables l new.now
  comes text terms width params columns old new n h means uncounted bare values cast is turned fresh ran =
      let schema = old.now.schema in
      let at = stands schema h.known in
      let rows = are old.now h.tables in
      let it : AddsRow schema (placed schema table) columns old new = adds_row schema (placed schema table) columns old new cast
      (subst (λ v. Rattle.store_schema.proofs.Writes.Adds schema (placed schema table) v old new) values (inserts schema at.at (placed schema table) at.place text params old new refl uncounted bare terms width means n ran)) in
      let here : rows_of new.now table ≡ new.now.trees (tree_of schema table) = ap (λ s. new.now.trees (tree_of s table)) it.ran.schema_is in
      let p = it.puts in
      let come : Comes (rows_of old.now table) (rows_of new.now table) columns = record { id = new.last_rowid; puts = record { before = p.before; after = p.after; olds_are = p.olds_are; news_are = here ∙ p.news_are }; ids = subst HaveIds (sym here) (it.ids rows.ids) } in
      let all = after old.now new.now _ h (keeps_others table old.now new.now (tree_of schema table) refl it.ran.schema_is it.tables) refl
      (rows_with Is same _ _ _ columns come.puts come.ids (is _) turned (fresh _) rows) in
      (come, all.0, all.1)

  -- an UPDATE of the one row of a key
  pub changes : (text : List ℕ) (terms project : List Term) (params : Row) (p : Row → Bool) (f : Row → Row) (old new : State) (n : ℕ) → (h : HoldsTables l old.now)
      → Means old.now.schema text (Update (stands old.now.schema h.known).at (record { lets = []; body = select_from (tree_of old.now.schema table) terms project }))
      → ((r : Row) → Is r → passes params terms r ≡ p r) → ((a b : Row) → same a b ≡ false → p a ≡ true → p b ≡ false)
      → ((r : Row) → eval_all project (params ∷ r ∷ []) ≡ column r 0 ∷ f r) → ((r : Row) → rowid (f r) ≡ rowid r)
      → ((r : Row) → Is r → rowid r ≡ Int (id_in (rowid r)) → cast_row (placed old.now.schema table) (f r) ≡ f r)
      → ((r : Row) → Is r → Is (f r)) → ((a r : Row) → same (f a) r ≡ same a r) → ((a r : Row) → same a (f r) ≡ same a r)
      → Executes text params old new (Ok n)
      → (n ≡ length (filter p (rows_of old.now table))) × (tables_in l new.now ≡ put (tables_in l old.now) (changed p f (rows_of old.now table))) × HoldsTables l new.now
  changes text terms project params p f old new n h means test parts shows keeps casts is left right ran =
      let schema = old.now.schema in
      let at = stands schema h.known in
      let rows = are old.now h.tables in
      let q = passes params terms in
      let same_test = all_weaker Is (λ r. q r ≡ p r) test (rows_of old.now table) rows.types in
      let filters : filter q (rows_of old.now table) ≡ filter p (rows_of old.now table) = filter_same q p _ same_test in
      let finds : find q (rows_of old.now table) ≡ find p (rows_of old.now table) = find_same q p _ same_test in
      let one : filter q (rows_of old.now table) ≡ option_to_list (find q (rows_of old.now table)) = filters ∙ only_one p (λ a b. same a b ≡ false) parts _ rows.apart ∙ ap option_to_list (sym finds) in
      let it : Sets schema (placed schema table) q f old new n = sets schema (placed schema table) terms project params f old new n rows.ids one shows keeps (λ r has e. casts r (member _ r rows.types has) (rowid_is _ r rows.ids has)) (h.known.still (tree_of schema table))
      (updates schema at.at (placed schema table) at.place at.stored text terms params old new refl n ran project means) in
      let all = after old.now new.now _ h (keeps_others table old.now new.now (tree_of schema table) refl it.ran.schema_is it.tables)
      (ap (λ s. new.now.trees (tree_of s table)) it.ran.schema_is ∙ it.rows ∙ map_same q p f _ same_test)
      (rows_changed Is same p f keeps is left right _ rows) in
      (it.counted ∙ ap length filters, all.0, all.1)
    where
      member : (xs : List Row) (r : Row) → AllByRecursion Is xs → Has xs r → Is r
      member [] r all has = absurd has
      member (x ∷ xs) r all (inl e) = subst Is (sym e) all.0
      member (x ∷ xs) r all (inr has) = member xs r all.1 has

      find_same : (q p : Row → Bool) (rows : List Row) → AllByRecursion (λ r. q r ≡ p r) rows → find q rows ≡ find p rows
      find_same q p [] h = refl
      find_same q p (r ∷ rs) h = rw (h.0, find_same q p rs h.1)

      map_same : (q p : Row → Bool) (f : Row → Row) (rows : List Row) → AllByRecursion (λ r. q r ≡ p r) rows → changed q f rows ≡ changed p f rows
      map_same q p f [] h = refl
      map_same q p f (r ∷ rs) h = rw (h.0, map_same q p f rs h.1)
