-- A schema of the three tables alone is known, so what is kept true of the rows can be true.
use Rattle.std.proofs.Common.{◌≡◌, ◌≢◌, ◌∙◌, [], ◌∷◌, refl, sym}
use Rattle.std.specs.Prelude.{codes}
use Rattle.sqlite_tied.specs.Compute.{everything}
use Rattle.sqlite_schema.specs.Names.{same_name}
use Rattle.sqlite_value.specs.Keys.{joined}
use Rattle.sqlite.specs.Change.{created}
use Rattle.sqlite.specs.Schema.{Schema}
use Rattle.sqlite.specs.Command.TheVariants.{Insert}
use Rattle.sqlite.specs.Source.TheVariants.{Values}
use Rattle.sqlite.specs.Term.{col}
use Rattle.store_schema.specs.Schema.{no_schema}
use Rattle.store_schema.specs.Commands.{deletes, selects, selects_ordered, updates}
use Rattle.store_schema.specs.Layout.{IsUnreferred, Stands, tree_of}
use Rattle.store_schema.proofs.Meanings.{means_by}
use Rattle.store_contents.specs.PlaceTables.{contents_table, pack_table, places_table}
use Rattle.store_contents.specs.PlaceTexts.{IsAlone, KnowsContentTexts, KnowsPackTexts, KnowsPlaceTexts, KnowsPlaces, by_first, by_id, content_add, content_add_terms, content_find, content_hash, content_list, content_remove, pack_put, pack_put_terms, pack_read, pack_set_age, pack_set_terms, place_add, place_add_terms, place_list, place_list_all, place_remove}

abbrev pub made_schema : Schema
made_schema = created (created (created no_schema pack_table) contents_table) places_table

-- ---- the tables stand, each in a tree of its own

pack_tree : tree_of made_schema pack_table ≡ 0
unfolding same_name
pack_tree = refl

contents_tree : tree_of made_schema contents_table ≡ 1
unfolding same_name
contents_tree = refl

places_tree : tree_of made_schema places_table ≡ 2
unfolding same_name
places_tree = refl

unfoldable pub pack_stands : Stands made_schema pack_table
unfolding same_name
pack_stands = record { at = 0; place = refl; stored = refl }

unfoldable pub contents_stand : Stands made_schema contents_table
unfolding same_name
contents_stand = record { at = 1; place = refl; stored = refl }

unfoldable pub places_stand : Stands made_schema places_table
unfolding same_name
places_stand = record { at = 2; place = refl; stored = refl }

places_apart : tree_of made_schema places_table ≢ tree_of made_schema contents_table
places_apart e = absurd (let x = sym places_tree ∙ e ∙ contents_tree in cc)

pack_apart : (tree_of made_schema pack_table ≢ tree_of made_schema contents_table) × (tree_of made_schema pack_table ≢ tree_of made_schema places_table)
pack_apart = ((λ e. absurd (let x = sym pack_tree ∙ e ∙ contents_tree in cc)), (λ e. absurd (let x = sym pack_tree ∙ e ∙ places_tree in cc)))

-- ---- no row goes with a row of theirs

contents_alone : IsUnreferred made_schema contents_table
unfolding joined everything same_name
contents_alone olds = refl

places_alone : IsUnreferred made_schema places_table
unfolding joined everything same_name
places_alone olds = refl

pack_alone : IsAlone made_schema pack_table
unfolding joined everything same_name
pack_alone olds news = refl

-- ---- the texts mean what they say

content_texts : KnowsContentTexts made_schema contents_stand
unfolding everything same_name contents_stand
content_texts = record {
  add = means_by made_schema content_add (Insert contents_stand.at (Values content_add_terms 4)) refl;
  remove = means_by made_schema content_remove (deletes contents_stand.at made_schema contents_table by_id) refl;
  find = means_by made_schema content_find (selects made_schema contents_table by_id (col 1 3 ∷ []) (codes "size" ∷ [])) refl;
  list = means_by made_schema content_list (selects made_schema contents_table [] (col 1 0 ∷ []) (codes "id" ∷ [])) refl;
  hash = means_by made_schema content_hash (selects made_schema contents_table by_id (col 1 2 ∷ []) (codes "sha256" ∷ [])) refl;
}

place_texts : KnowsPlaceTexts made_schema places_stand
unfolding everything same_name places_stand
place_texts = record {
  add = means_by made_schema place_add (Insert places_stand.at (Values place_add_terms 5)) refl;
  remove = means_by made_schema place_remove (deletes places_stand.at made_schema places_table by_first) refl;
  list = means_by made_schema place_list (selects_ordered made_schema places_table by_first (col 1 3 ∷ col 1 4 ∷ []) 2 (codes "size" ∷ codes "at" ∷ [])) refl;
  list_all = means_by made_schema place_list_all (selects made_schema places_table [] (col 1 3 ∷ col 1 4 ∷ []) (codes "size" ∷ codes "at" ∷ [])) refl;
}

pack_texts : KnowsPackTexts made_schema pack_stands
unfolding everything same_name pack_stands
pack_texts = record {
  read = means_by made_schema pack_read (selects made_schema pack_table [] (col 1 1 ∷ col 1 2 ∷ []) (codes "mark" ∷ codes "age" ∷ [])) refl;
  put = means_by made_schema pack_put (Insert pack_stands.at (Values pack_put_terms 3)) refl;
  set_age = means_by made_schema pack_set_age (updates pack_stands.at made_schema pack_table [] pack_set_terms) refl;
}

pub knows_places : KnowsPlaces made_schema
knows_places = record {
  contents = contents_stand;
  places = places_stand;
  pack = pack_stands;
  apart = places_apart;
  pack_apart = pack_apart;
  contents_alone = contents_alone;
  places_alone = places_alone;
  pack_alone = pack_alone;
  content_texts = content_texts;
  place_texts = place_texts;
  pack_texts = pack_texts;
}
