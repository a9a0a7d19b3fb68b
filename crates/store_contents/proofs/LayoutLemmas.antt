-- A statement that writes another table leaves contents as they are, wherever their bytes are kept.
use Rattle.std.proofs.Common.{◌≡◌, ◌≢◌, ℕ, List, refl, sym, subst}
use Rattle.std.specs.Prelude.{find, option_map}
use Rattle.std.specs.List.{AllByRecursion}
use Rattle.sqlite.specs.Order.{Row}
use Rattle.sqlite.specs.Tree.{has_rowid}
use Rattle.sqlite.specs.Table.{Table}
use Rattle.sqlite.specs.Effect.{Database}
use Rattle.store_schema.specs.Rows.{bytes_at, HaveIds}
use Rattle.store_schema.specs.Layout.{tree_of, KeepsOthers}
use Rattle.store_schema.proofs.Writes.{rows_in}
use Rattle.store_contents.specs.Contents.{KnowsContents, HoldsContents, AreContentRows}
use Rattle.store_contents.specs.Contents as contents
use Rattle.store_schema.specs.Schema as schema-specs
use Rattle.store_contents.specs.PlaceTables.{pack_table, places_table, contents_table}
use Rattle.store_contents.specs.PlaceTexts.{KnowsPlaces}
use Rattle.store_contents.specs.Places.{IsContentRow, IsPlaceRow, AreOwned, HaveStarts, content_rows, place_rows, pack_rows, places_of, joined}
use Rattle.store_contents.specs.Layouts.{Layout, InTables, InPack, Knows, Holds, contents_in, places_in, packs_in, further_trees, IsNone, AreHashed}

pub record AreLeft (l : Layout) (old new : Database) : Type 0 where
  pub contents : contents_in l new ≡ contents_in l old
  pub places : places_in l new ≡ places_in l old
  pub packs : packs_in l new ≡ packs_in l old
  pub holds : Holds l old → Holds l new

-- ---- the rows are the same

pub same_in_tables : (old new : Database) → new.schema ≡ old.schema → contents.content_rows new ≡ contents.content_rows old → AreLeft InTables old new
same_in_tables old new schema rows = record {
  contents = λ i id. option_map (λ r. bytes_at r 4) (find (has_rowid id) (rows i));
  places = refl;
  packs = refl;
  holds = λ is. record {
    known = subst KnowsContents (sym schema) is.known;
    rows = subst AreContentRows (sym rows) is.rows;
    apart = subst contents.AreApart (sym rows) is.apart;
    ids = subst HaveIds (sym rows) is.ids;
  };
}

pub same_in_pack : (file : List ℕ) (old new : Database) → new.schema ≡ old.schema → content_rows new ≡ content_rows old → place_rows new ≡ place_rows old → pack_rows new ≡ pack_rows old → AreLeft (InPack file) old new
same_in_pack file old new schema rows places packs = record {
  contents = λ i id. option_map (λ _. joined file (places_of (places i) id)) (find (has_rowid id) (rows i));
  places = places;
  packs = packs;
  holds = λ is. record {
    rows = record {
      known = subst KnowsPlaces (sym schema) is.rows.known;
      contents = subst (AllByRecursion IsContentRow) (sym rows) is.rows.contents;
      places = subst (AllByRecursion IsPlaceRow) (sym places) is.rows.places;
      content_ids = subst HaveIds (sym rows) is.rows.content_ids;
      place_ids = subst HaveIds (sym places) is.rows.place_ids;
      pack_ids = subst HaveIds (sym packs) is.rows.pack_ids;
      owned = subst (AreOwned (content_rows new)) (sym places) (subst (λ (xs : List Row). AreOwned xs (place_rows old)) (sym rows) is.rows.owned);
      apart = subst HaveStarts (sym places) is.rows.apart;
    };
    hashed = subst (AreHashed file (content_rows new)) (sym places) (subst (λ (xs : List Row). AreHashed file xs (place_rows old)) (sym rows) is.hashed);
  };
}

-- ---- a write to another table

-- where its tree is none of theirs
pub left_by_other : (l : Layout) (table : Table) (old new : Database) → Knows l old.schema → KeepsOthers table old new
    → tree_of old.schema contents_table ≢ tree_of old.schema table → IsNone (tree_of old.schema table) (further_trees l old.schema) → AreLeft l old new
left_by_other InTables table old new k keeps apart further = same_in_tables old new keeps.schema (rows_in old new table schema-specs.contents_table k.stands keeps apart)
left_by_other (InPack file) table old new k keeps apart further =
    same_in_pack file old new keeps.schema (rows_in old new table contents_table k.contents keeps apart)
    (rows_in old new table places_table k.places keeps further.0) (rows_in old new table pack_table k.pack keeps further.1.0)
