-- Once the tables of schema 2 are made beside those of schema 1, the rows of both are as they are while rows are
-- moved.
use Rattle.std.proofs.Common.{◌≡◌, ◌∙◌, ℕ, List, [], ◌∷◌, refl, sym, ap, ap₂, subst}
use Rattle.std.specs.Prelude.{find, option_map}
use Rattle.sqlite.specs.Order.{Row}
use Rattle.sqlite.specs.Tree.{has_rowid}
use Rattle.sqlite.specs.Schema.{Schema}
use Rattle.sqlite.specs.Table.{Table}
use Rattle.sqlite.specs.Change.{KeepsRows}
use Rattle.sqlite.specs.Effect.{Database}
use Rattle.sqlite_schema.specs.Names.{same_name}
use Rattle.store_schema.specs.Schema.{version_table, repos_table, grants_table, tags_table, contents_table, blob_links_table, manifest_links_table, uploads_table, pieces_table}
use Rattle.store_schema.specs.OldSchema.{old_schema, both_schema, old_blobs_table, old_manifests_table, old_sessions_table}
use Rattle.store_schema.specs.Rows.{bytes_at, HaveIds}
use Rattle.store_schema.specs.Layout.{tree_of, rows_of}
use Rattle.store_schema.specs.Beside.{Comes, IsNewBeside, names_of_two, tables_of_two}
use Rattle.store_contents.specs.Contents.{AreContentRows, AreApart, content_rows}
use Rattle.store_contents.specs.Layouts.{InTables}
use Rattle.store_statements.specs.Tables.{AreTables}
use Rattle.store_statements.specs.Known.{KnowsRegistry, trees_of, rows_beside}
use Rattle.store_statements.specs.Held.{HoldsTables, tables_in, beside_in}
use Rattle.store_migration.specs.OldTables.{OldTables}
use Rattle.store_migration.specs.Both.{world_of_both, AreBoth, emptied}
use Rattle.store_migration.proofs.Starts.{world_begins, both_begin}
use Rattle.store_migration.proofs.BothWorlds.{beside_free}
use Rattle.store_migration.specs.Olds.{KnowsOld, HasOlds, AreOldRows, old_of, olds_of}
use Rattle.store_migration.proofs.BothKnown.{knows_registry, knows_old}
use Rattle.store_migration.specs.Moving.{IsUnderway}
use Rattle.store_migration.specs.OldFile.{HoldsOldRegistry, olds_in, old_world_in}

-- ---- where the tables stand

-- in this tree, with those of schema 2 or without
abbrev StaysAt : Table → ℕ → Type 0
StaysAt table tree = (tree_of old_schema table ≡ tree) × (tree_of both_schema table ≡ tree)

version_stays : StaysAt version_table 0
unfolding same_name
version_stays = (refl, refl)

repos_stay : StaysAt repos_table 1
unfolding same_name
repos_stay = (refl, refl)

grants_stay : StaysAt grants_table 3
unfolding same_name
grants_stay = (refl, refl)

tags_stay : StaysAt tags_table 5
unfolding same_name
tags_stay = (refl, refl)

blobs_stay : StaysAt old_blobs_table 7
unfolding same_name
blobs_stay = (refl, refl)

manifests_stay : StaysAt old_manifests_table 9
unfolding same_name
manifests_stay = (refl, refl)

sessions_stay : StaysAt old_sessions_table 11
unfolding same_name
sessions_stay = (refl, refl)

module _ (old new : Database) (is : HoldsOldRegistry old) (both : new.schema ≡ both_schema) (comes : Comes names_of_two tables_of_two old new) where
  -- ---- the rows that were there

  kept : KeepsRows old_schema.tables old.trees new.trees
  kept = subst (λ (s : Schema). KeepsRows s.tables old.trees new.trees) is.schema comes.kept.rows

  in_tree : (table : Table) (tree : ℕ) → StaysAt table tree → new.trees tree ≡ old.trees tree → new.trees (tree_of both_schema table) ≡ rows_of old table
  in_tree table tree stays same = ap new.trees stays.1 ∙ same ∙ sym (ap (λ s. old.trees (tree_of s table)) is.schema ∙ ap old.trees stays.0)

  same_rows : (table : Table) (tree : ℕ) → StaysAt table tree → new.trees tree ≡ old.trees tree → rows_of new table ≡ rows_of old table
  same_rows table tree stays same = ap (λ s. new.trees (tree_of s table)) both ∙ in_tree table tree stays same

  -- ---- the tables that are new

  none_in : (table : Table) → IsNewBeside old.schema.tables new table → rows_of new table ≡ []
  none_in table it =
      let tree : tree_of new.schema table ≡ it.tree = rw (it.named, it.place) refl in
      ap new.trees tree ∙ it.empty

  no_contents : content_rows new ≡ []
  no_contents = none_in contents_table comes.made.0

  tables_are : tables_in InTables new ≡ record (emptied (tables_in InTables old)) { beside = beside_in new }
  tables_are = λ i. record {
    number = 2;
    version = same_rows version_table 0 version_stays kept.0 i;
    repos = same_rows repos_table 1 repos_stay kept.1.0 i;
    grants = same_rows grants_table 3 grants_stay kept.1.1.0 i;
    tags = same_rows tags_table 5 tags_stay kept.1.1.1.0 i;
    contents = λ id. option_map (λ r. bytes_at r 4) (find (has_rowid id) (no_contents i));
    places = [];
    packs = [];
    blobs = none_in blob_links_table comes.made.1.0 i;
    manifests = none_in manifest_links_table comes.made.1.1.0 i;
    uploads = none_in uploads_table comes.made.1.1.1.0 i;
    pieces = none_in pieces_table comes.made.1.1.1.1.0 i;
    beside = beside_in new;
  }

  beside_rows : rows_beside new.trees (trees_of new.schema) new.schema.tables
      ≡ new.trees (tree_of both_schema old_blobs_table) ∷ new.trees (tree_of both_schema old_manifests_table) ∷ new.trees (tree_of both_schema old_sessions_table) ∷ []
  beside_rows = ap (λ (s : Schema). rows_beside new.trees (trees_of s) s.tables) both ∙ knows_old.beside new.trees

  pub olds_are : old_of (tables_in InTables new) ≡ olds_in old
  olds_are =
      ap (λ (rows : List (List Row)). olds_of (record { schema = new.schema; rows = rows })) beside_rows
      ∙ (λ i. record {
        blobs = in_tree old_blobs_table 7 blobs_stay kept.1.1.1.1.0 i;
        manifests = in_tree old_manifests_table 9 manifests_stay kept.1.1.1.1.1.0 i;
        sessions = in_tree old_sessions_table 11 sessions_stay kept.1.1.1.1.1.1.0 i;
      })

  -- ---- so they are as they are while rows are moved

  are_tables : AreTables (record (emptied (tables_in InTables old)) { beside = beside_in new })
  are_tables = record {
    repos = is.registry.repos;
    grants = is.registry.grants;
    tags = is.registry.tags;
    blobs = record { types = tt; apart = tt; ids = (tt, tt) };
    manifests = record { types = tt; apart = tt; ids = (tt, tt) };
    uploads = record { types = tt; apart = tt; ids = (tt, tt) };
    pieces = record { types = tt; apart = tt; ids = (tt, tt) };
  }

  pub begin_holding : HoldsTables InTables new
  begin_holding = record {
    known = subst (KnowsRegistry InTables) (sym both) knows_registry;
    contents = record {
      known = (subst (KnowsRegistry InTables) (sym both) knows_registry).contents;
      rows = subst AreContentRows (sym no_contents) tt;
      apart = subst AreApart (sym no_contents) tt;
      ids = subst HaveIds (sym no_contents) (tt, tt);
    };
    tables = subst AreTables (sym tables_are) are_tables;
  }

  begin_both : AreBoth (old_of (tables_in InTables new)) (tables_in InTables new)
  begin_both =
      subst (λ (olds : OldTables). AreBoth olds (tables_in InTables new)) (sym olds_are)
      (subst (AreBoth (olds_in old)) (sym tables_are) (beside_free (olds_in old) (emptied (tables_in InTables old)) (beside_in new) (both_begin (olds_in old) (tables_in InTables old) is.registry)))

  begin_olds : HasOlds (tables_in InTables new)
  begin_olds = record {
    known = subst KnowsOld (sym both) knows_old;
    version = subst HaveIds (sym (same_rows version_table 0 version_stays kept.0)) is.version;
    rows = subst AreOldRows (sym olds_are) (record { blobs = is.registry.olds.blobs; manifests = is.registry.olds.manifests; sessions = is.registry.olds.sessions });
  }

  pub begin_underway : IsUnderway (tables_in InTables new)
  begin_underway = record { olds = begin_olds; both = begin_both }

  pub begin_world : world_of_both (old_of (tables_in InTables new)) (tables_in InTables new) ≡ old_world_in old
  begin_world = ap₂ world_of_both olds_are tables_are ∙ world_begins (olds_in old) (tables_in InTables old)
