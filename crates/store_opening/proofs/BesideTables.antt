-- The tables that were made beside others have no row, and what was there stays.
use Rattle.std.proofs.Common.{◌≡◌, ◌≢◌, ◌∙◌, ℕ, false, List, [], ◌∷◌, ◌++◌, Ok, Err, Result, OnOk, refl, sym, ap, subst}
use Rattle.std.specs.Prelude.{find, option_map, IsTrue}
use Rattle.std.specs.List.{AllByRecursion}
use Rattle.sqlite.specs.Table.{Table}
use Rattle.sqlite.specs.Tree.{Trees, has_rowid}
use Rattle.sqlite.specs.Change.{KeepsRows}
use Rattle.sqlite.specs.Effect.{Database}
use Rattle.sqlite.specs.declared.error.Error.{Error}
use Rattle.sqlite.specs.State.{State, Shows, ExecutesInside}
use Rattle.store_schema.specs.Schema.{version_table, repos_table, grants_table, tags_table, contents_table, blob_links_table, manifest_links_table, uploads_table, pieces_table}
use Rattle.store_schema.specs.Rows.{bytes_at, HaveIds}
use Rattle.store_schema.specs.Layout.{tree_of, rows_of}
use Rattle.store_schema.specs.Beside.{Keeps, Comes, IsNewBeside, registry_names, registry_tables}
use Rattle.store_contents.specs.Contents.{AreContentRows, AreApart, content_rows}
use Rattle.store_contents.specs.Layouts.{InTables}
use Rattle.store_statements.specs.Tables.{Tables, AreTables, IsEmptyBeside, new_tables}
use Rattle.store_statements.proofs.NewTables.{are_new}
use Rattle.store_statements.specs.Known.{KnowsRegistry}
use Rattle.store_statements.specs.Held.{tables_in, held, HoldsTables, beside_in}
use Rattle.store_statements.specs.VersionTexts.{version_add}
use Rattle.store_opening.specs.Opening.{IsMadeBeside, IsOpenedBeside}
use Rattle.store_opening.proofs.FreshTables.{came_two, makes_none}
use Rattle.store_opening.proofs.VersionRows.{version_by}
use Rattle.store_opening.proofs.VersionInserts.{Leaves, version_put}

-- ---- no row

none_in : (before : List Table) (db : Database) (table : Table) → IsNewBeside before db table → rows_of db table ≡ []
none_in before db table it =
    let tree : tree_of db.schema table ≡ it.tree = rw (it.named, it.place) refl in
    ap db.trees tree ∙ it.empty

module _ (before : List Table) (db : Database) (made : AllByRecursion (IsNewBeside before db) registry_tables) where
  no_rows : tables_in InTables db ≡ new_tables [] (beside_in db)
  no_rows = λ i. record {
    number = 2;
    version = none_in before db version_table made.0 i;
    repos = none_in before db repos_table made.1.0 i;
    grants = none_in before db grants_table made.1.1.0 i;
    tags = none_in before db tags_table made.1.1.1.0 i;
    contents = λ id. option_map (λ r. bytes_at r 4) (find (has_rowid id) (none_in before db contents_table made.1.1.1.1.0 i));
    places = [];
    packs = [];
    blobs = none_in before db blob_links_table made.1.1.1.1.1.0 i;
    manifests = none_in before db manifest_links_table made.1.1.1.1.1.1.0 i;
    uploads = none_in before db uploads_table made.1.1.1.1.1.1.1.0 i;
    pieces = none_in before db pieces_table made.1.1.1.1.1.1.1.1.0 i;
    beside = beside_in db;
  }

  holds_none : KnowsRegistry InTables db.schema → HoldsTables InTables db
  holds_none known =
      let none : content_rows db ≡ [] = none_in before db contents_table made.1.1.1.1.0 in
      record {
        known = known;
        contents = record { known = known.contents; rows = subst AreContentRows (sym none) tt; apart = subst AreApart (sym none) tt; ids = subst HaveIds (sym none) (tt, tt) };
        tables = subst AreTables (sym no_rows) (are_new [] (beside_in db));
      }

-- ---- what was there

rows_left : (tables more : List Table) (tree : ℕ) (a b c : Trees) → KeepsRows tables a b → AllByRecursion (λ (t : Table). t.tree ≢ tree) tables → AllByRecursion (λ (t : Table). t.tree ≢ tree → c t.tree ≡ b t.tree) (tables ++ more) → KeepsRows tables a c
rows_left [] more tree a b c kept apart left = tt
rows_left (t ∷ ts) more tree a b c kept apart left = (left.0 apart.0 ∙ kept.0, rows_left ts more tree a b c kept.1 apart.1 left.1)

module _ (first : Database) (mid new : State) (comes : Comes registry_names registry_tables first mid.now) where
  keeps : Leaves comes.made.0.tree mid.now new.now → Keeps first new.now
  keeps left =
      let k = comes.kept in
      record {
        tables = (k.tables.0, ap (λ s. s.tables) left.schema ∙ k.tables.1);
        indexes = (k.indexes.0, ap (λ s. s.indexes) left.schema ∙ k.indexes.1);
        views = ap (λ s. s.views) left.schema ∙ k.views;
        rows = rows_left first.schema.tables k.tables.0 comes.made.0.tree first.trees mid.now.trees new.now.trees k.rows comes.made.0.apart
            (subst (λ ts. AllByRecursion (λ (t : Table). t.tree ≢ comes.made.0.tree → new.now.trees t.tree ≡ mid.now.trees t.tree) ts) k.tables.1 left.tables);
      }

  -- with the version they are new
  pub made_beside : (r : Result ℕ Error) → IsTrue mid.in_transaction → ExecutesInside 0 version_add [] mid new r → OnOk r (IsMadeBeside first new)
  made_beside (Err e) inside ran = tt
  made_beside (Ok n) inside ran =
      let left = version_put first.schema.tables mid new n comes.made.0 ran.0 in
      record {
        kept = keeps left;
        fresh = λ known alone.
            let none = no_rows first.schema.tables mid.now comes.made in
            let holds = holds_none first.schema.tables mid.now comes.made (subst (KnowsRegistry InTables) left.schema known) in
            let c = version_by mid new (Ok n) (record { inside = inside; holds = holds }) ran in
            record {
              ready = c.ready;
              version = came_two (held InTables mid).version (held InTables new).version c.id c.puts (ap (λ (t : Tables). t.version) none);
              beside = alone;
              tables = c.others ∙ ap (λ (t : Tables). record t { version = (held InTables new).version }) none ∙ ap (new_tables (held InTables new).version) (sym (ap (λ (t : Tables). t.beside) c.others));
            };
      }

-- and once committed they stand for the empty world
pub opened_beside : (first : Database) (mid end : State) → IsMadeBeside first mid → Shows mid end mid.now mid.now false → IsOpenedBeside first end
opened_beside first mid end it shows = record {
  kept = subst (Keeps first) (sym shows.now_is) it.kept;
  stands = λ known alone. makes_none mid end (it.fresh (subst (λ (d : Database). KnowsRegistry InTables d.schema) shows.now_is known) (subst (λ (d : Database). IsEmptyBeside (beside_in d)) shows.now_is alone)) shows;
}
