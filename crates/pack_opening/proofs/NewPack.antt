-- The rows that are put into the tables that were just made, and what the tables are then.
use Rattle.std.proofs.Common.{◌≡◌, ◌≢◌, ◌∙◌, ℕ, ℤ, pos, List, [], ◌∷◌, ◌++◌, Ok, refl, sym, ap, subst}
use Rattle.std.specs.Prelude.{find, option_map}
use Rattle.std.specs.List.{AllByRecursion}
use Rattle.sqlite.specs.declared.types.Value.TheVariants.{Null, Int}
use Rattle.sqlite.specs.Cast.{cast_row}
use Rattle.sqlite.specs.Effect.{Database}
use Rattle.sqlite.specs.Ops.{unary}
use Rattle.sqlite.specs.Order.{Row}
use Rattle.sqlite.specs.Schema.{Schema}
use Rattle.sqlite.specs.State.{State, Executes}
use Rattle.sqlite.specs.Table.{Table}
use Rattle.sqlite.specs.Term.{lit}
use Rattle.sqlite.specs.Tree.{Trees, has_rowid}
use Rattle.sqlite_schema.specs.Names.{same_name}
use Rattle.store_schema.specs.Schema.{version_table, repos_table, grants_table, tags_table, blob_links_table, manifest_links_table, uploads_table, pieces_table}
use Rattle.store_schema.specs.PlaceTables.{pack_table, contents_table, places_table}
use Rattle.store_schema.specs.PackSchema.{pack_schema}
use Rattle.store_schema.specs.Layout.{tree_of, placed, rows_of}
use Rattle.store_schema.specs.Making.{IsEmptyWith}
use Rattle.store_schema.specs.Rows.{HaveIds, PutsRow}
use Rattle.store_schema.proofs.PackFresh.{version_stands, version_tree, repos_tree, grants_tree, tags_tree, pack_tree, contents_tree, places_tree, blob_links_tree, manifest_links_tree, uploads_tree, pieces_tree}
use Rattle.store_schema.proofs.Writes.{AddsRow, adds_row, either, inserts}
use Rattle.store_contents.specs.Layouts.{InPack, AreHashed}
use Rattle.store_contents.specs.PlaceTexts.{KnowsPlaces}
use Rattle.store_contents.specs.Places.{AreOwned, HaveStarts, HoldsPlaces, IsContentRow, IsPlaceRow, content_rows, joined, pack_rows, place_rows, places_of}
use Rattle.store_statements.specs.Tables.{Tables, Beside, AreTables, IsEmptyBeside, new_tables}
use Rattle.store_statements.specs.Registry.{Agree, IsOfSchema}
use Rattle.store_statements.specs.World.{world_of}
use Rattle.store_statements.specs.Known.{KnowsRegistry, trees_of, rows_beside}
use Rattle.store_statements.specs.Held.{tables_in, beside_in}
use Rattle.store_pack.specs.Pack.{PutsPack}
use Rattle.pack_opening.specs.Making.{IsPackRegistry, IsVersioned, IsFilled, version_add}
use Rattle.pack_opening.proofs.PackTexts.{adds_version}
use Rattle.pack_opening.proofs.PackKnown.{knows_registry, knows_places}

-- ---- the row of the version

emptied : (tables : List Table) (tree : ℕ) (a b : Trees) → AllByRecursion (λ (t : Table). t.tree ≢ tree → b t.tree ≡ a t.tree) tables
    → AllByRecursion (λ (t : Table). a t.tree ≡ []) tables → AllByRecursion (λ (t : Table). t.tree ≢ tree → b t.tree ≡ []) tables
emptied [] tree a b kept none = tt
emptied (t ∷ ts) tree a b kept none = ((λ apart. kept.0 apart ∙ none.0), emptied ts tree a b kept.1 none.1)

cast_version : cast_row (placed pack_schema version_table) (Null ∷ Int (pos 3) ∷ []) ≡ Null ∷ Int (pos 3) ∷ []
unfolding unary
cast_version = rw (either, either)

alone_said : (before after : List Row) (id : ℤ) → before ++ after ≡ [] → IsOfSchema 3 (before ++ (Int id ∷ Int (pos 3) ∷ []) ∷ after)
alone_said [] [] id e = refl
alone_said [] (r ∷ rs) id e = absurd cc
alone_said (r ∷ rs) after id e = absurd cc

came_three : (olds news : List Row) (id : ℤ) → PutsRow olds news id (Int (pos 3) ∷ []) → olds ≡ [] → IsOfSchema 3 news
came_three olds news id p none = subst (IsOfSchema 3) (sym p.news_are) (alone_said p.before p.after id (sym p.olds_are ∙ none))

pub version_put : (old new : State) (n : ℕ) → IsEmptyWith pack_schema old.now → Executes version_add [] old new (Ok n) → IsVersioned new.now
version_put old new n it h = record {
  schema_is = added.ran.schema_is;
  version = subst (IsOfSchema 3) (sym here) (came_three _ _ new.last_rowid added.puts (ap old.now.trees version_tree ∙ it.empty.0));
  empty = emptied pack_schema.tables table.tree old.now.trees new.now.trees added.tables it.empty;
}
  where
    table : Table
    table = placed pack_schema version_table

    added : AddsRow pack_schema table (Int (pos 3) ∷ []) old new
    added = adds_row pack_schema table (Int (pos 3) ∷ []) old new cast_version
        (inserts pack_schema version_stands.at table version_stands.place version_add [] old new it.schema_is refl refl (lit Null ∷ lit (Int (pos 3)) ∷ [])
        2 adds_version n h)

    here : rows_of new.now version_table ≡ new.now.trees table.tree
    here = ap (λ s. new.now.trees (tree_of s version_table)) added.ran.schema_is

-- ---- the tables of contents are such before the row of the pack comes

none_in : (db : Database) (table : Table) (tree : ℕ) → db.schema ≡ pack_schema → tree_of pack_schema table ≡ tree → db.trees tree ≡ [] → rows_of db table ≡ []
none_in db table tree is at none = ap (λ s. db.trees (tree_of s table)) is ∙ ap db.trees at ∙ none

module _ (db : Database) (it : IsVersioned db) where
  apart : (tree : ℕ) → tree ≢ 0 → tree ≢ tree_of pack_schema version_table
  apart tree other e = other (e ∙ version_tree)

  pub no_packs : pack_rows db ≡ []
  no_packs = none_in db pack_table 7 it.schema_is pack_tree (it.empty.1.1.1.1.0 (apart 7 (λ e. absurd cc)))

  no_contents : content_rows db ≡ []
  no_contents = none_in db contents_table 8 it.schema_is contents_tree (it.empty.1.1.1.1.1.0 (apart 8 (λ e. absurd cc)))

  no_places : place_rows db ≡ []
  no_places = none_in db places_table 9 it.schema_is places_tree (it.empty.1.1.1.1.1.1.0 (apart 9 (λ e. absurd cc)))

  pub holds_places : HoldsPlaces db
  holds_places = record {
    known = subst KnowsPlaces (sym it.schema_is) knows_places;
    contents = subst (AllByRecursion IsContentRow) (sym no_contents) tt;
    places = subst (AllByRecursion IsPlaceRow) (sym no_places) tt;
    content_ids = subst HaveIds (sym no_contents) (tt, tt);
    place_ids = subst HaveIds (sym no_places) (tt, tt);
    pack_ids = subst HaveIds (sym no_packs) (tt, tt);
    owned = subst (AreOwned (content_rows db)) (sym no_places) tt;
    apart = subst HaveStarts (sym no_places) tt;
  }

-- ---- new tables, over any pack

abbrev filled_tables : List Row → List Row → Beside → Tables
filled_tables version packs beside = record (new_tables version beside) { number = 3; packs = packs }

are_filled : (version packs : List Row) (beside : Beside) → AreTables (filled_tables version packs beside)
are_filled version packs beside = record {
  repos = record { types = tt; apart = tt; ids = (tt, tt) };
  grants = record { types = tt; apart = tt; ids = (tt, tt) };
  tags = record { types = tt; apart = tt; ids = (tt, tt) };
  blobs = record { types = tt; apart = tt; ids = (tt, tt) };
  manifests = record { types = tt; apart = tt; ids = (tt, tt) };
  uploads = record { types = tt; apart = tt; ids = (tt, tt) };
  pieces = record { types = tt; apart = tt; ids = (tt, tt) };
}

agree_filled : (version packs : List Row) (beside : Beside) → IsOfSchema 3 version → IsEmptyBeside beside → Agree (filled_tables version packs beside)
agree_filled version packs beside three none = record {
  version = three;
  granted = tt;
  tagged = tt;
  blobs_repo = tt;
  manifests_repo = tt;
  uploads_repo = tt;
  blobs = tt;
  manifests = tt;
  uploads = tt;
  pieces = tt;
  pieces_open = tt;
  beside = none;
}

none_further : (trees : Trees) → rows_beside trees (trees_of pack_schema) pack_schema.tables ≡ []
unfolding same_name
none_further trees = refl

-- ---- with the row of the pack

module _ (old new : Database) (mark : List ℕ) (it : IsVersioned old) (put : PutsPack old new mark 0) (holds : HoldsPlaces new) where
  schema_is : new.schema ≡ pack_schema
  schema_is = put.others.schema ∙ it.schema_is

  kept : AllByRecursion (λ (t : Table). t.tree ≢ 7 → new.trees t.tree ≡ old.trees t.tree) pack_schema.tables
  kept =
      subst (λ (n : ℕ). AllByRecursion (λ (t : Table). t.tree ≢ n → new.trees t.tree ≡ old.trees t.tree) pack_schema.tables) pack_tree
      (subst (λ (s : Schema). AllByRecursion (λ (t : Table). t.tree ≢ tree_of s pack_table → new.trees t.tree ≡ old.trees t.tree) s.tables) it.schema_is
      put.others.tables)

  still : (table : Table) (tree : ℕ) → tree_of pack_schema table ≡ tree → new.trees tree ≡ old.trees tree
      → (tree ≢ tree_of pack_schema version_table → old.trees tree ≡ []) → tree ≢ 0 → rows_of new table ≡ []
  still table tree at same none other = none_in new table tree schema_is at (same ∙ none (apart old it tree other))

  said : IsOfSchema 3 (rows_of new version_table)
  said =
      let here : rows_of new version_table ≡ new.trees 0 = ap (λ s. new.trees (tree_of s version_table)) schema_is ∙ ap new.trees version_tree in
      let there : rows_of old version_table ≡ old.trees 0 = ap (λ s. old.trees (tree_of s version_table)) it.schema_is ∙ ap old.trees version_tree in
      subst (IsOfSchema 3) (sym (here ∙ kept.0 (λ e. absurd cc) ∙ sym there)) it.version

  bare_contents : content_rows new ≡ []
  bare_contents = put.contents ∙ no_contents old it

  bare_places : place_rows new ≡ []
  bare_places = put.places ∙ no_places old it

  module _ (file : List ℕ) where
    no_rows : tables_in (InPack file) new ≡ filled_tables (rows_of new version_table) (pack_rows new) (beside_in new)
    no_rows = λ i. record {
      number = 3;
      version = rows_of new version_table;
      repos = still repos_table 1 repos_tree (kept.1.0 (λ e. absurd cc)) it.empty.1.0 (λ e. absurd cc) i;
      grants = still grants_table 3 grants_tree (kept.1.1.0 (λ e. absurd cc)) it.empty.1.1.0 (λ e. absurd cc) i;
      tags = still tags_table 5 tags_tree (kept.1.1.1.0 (λ e. absurd cc)) it.empty.1.1.1.0 (λ e. absurd cc) i;
      contents = λ id. option_map (λ _. joined file (places_of (place_rows new) id)) (find (has_rowid id) (bare_contents i));
      places = bare_places i;
      packs = pack_rows new;
      blobs = still blob_links_table 11 blob_links_tree (kept.1.1.1.1.1.1.1.0 (λ e. absurd cc)) it.empty.1.1.1.1.1.1.1.0 (λ e. absurd cc) i;
      manifests = still manifest_links_table 13 manifest_links_tree (kept.1.1.1.1.1.1.1.1.0 (λ e. absurd cc)) it.empty.1.1.1.1.1.1.1.1.0 (λ e. absurd cc) i;
      uploads = still uploads_table 15 uploads_tree (kept.1.1.1.1.1.1.1.1.1.0 (λ e. absurd cc)) it.empty.1.1.1.1.1.1.1.1.1.0 (λ e. absurd cc) i;
      pieces = still pieces_table 17 pieces_tree (kept.1.1.1.1.1.1.1.1.1.1.0 (λ e. absurd cc)) it.empty.1.1.1.1.1.1.1.1.1.1.0 (λ e. absurd cc) i;
      beside = beside_in new;
    }

    none_hashed : AreHashed file (content_rows new) (place_rows new)
    none_hashed = subst (λ rows. AreHashed file rows (place_rows new)) (sym bare_contents) (λ id row e. absurd (let x = e in cc))

    is_registry : IsPackRegistry file new
    is_registry = record {
      holds = record {
        known = subst (KnowsRegistry (InPack file)) (sym schema_is) (knows_registry file);
        contents = record { rows = holds; hashed = none_hashed };
        tables = subst AreTables (sym no_rows) (are_filled (rows_of new version_table) (pack_rows new) (beside_in new));
      };
      agree = subst Agree (sym no_rows) (agree_filled (rows_of new version_table) (pack_rows new) (beside_in new) said none_beside);
    }
      where
        none_beside : IsEmptyBeside (beside_in new)
        none_beside = subst (λ (ts : List (List Row)). AllByRecursion (λ (rows : List Row). rows ≡ []) ts)
            (sym (ap (λ (s : Schema). rows_beside new.trees (trees_of s) s.tables) schema_is ∙ none_further new.trees)) tt

  pub is_filled : IsFilled mark new
  is_filled = record {
    schema_is = schema_is;
    registry = is_registry;
    world = λ file. ap world_of (no_rows file);
    says = put.says;
    places = bare_places;
  }
