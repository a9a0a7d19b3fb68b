-- What the texts on contents in a pack mean, where their tables stand in a schema.
use Rattle.std.specs.Prelude.{◌≡◌, ◌≢◌, ℕ, List, [], ◌∷◌, codes}
use Rattle.sqlite.specs.declared.types.Value.TheVariants.{Null}
use Rattle.sqlite.specs.Order.{Row}
use Rattle.sqlite.specs.Table.{Table}
use Rattle.sqlite.specs.Schema.{Schema}
use Rattle.sqlite.specs.Term.{Term, lit, col}
use Rattle.sqlite.specs.Source.TheVariants.{Values}
use Rattle.sqlite.specs.Command.TheVariants.{Insert}
use Rattle.sqlite_schema.specs.declared.schema.Keys.TheVariants.{Enforced}
use Rattle.sqlite_rules.specs.Action.{works}
use Rattle.store_schema.specs.Layout.{Stands, Means, IsUnreferred, equals, tree_of}
use Rattle.store_schema.specs.Commands.{selects, selects_ordered, updates, deletes}
use Rattle.store_contents.specs.PlaceTables.{pack_table, contents_table, places_table}

-- ---- contents: a row goes (rowid, NULL for `id`, sha256, size)

abbrev pub content_add : List ℕ
content_add = codes "INSERT INTO registry_contents (sha256, size) VALUES (?1, ?2)"

abbrev pub content_remove : List ℕ
content_remove = codes "DELETE FROM registry_contents WHERE id = ?1"

abbrev pub content_find : List ℕ
content_find = codes "SELECT size FROM registry_contents WHERE id = ?1"

abbrev pub content_list : List ℕ
content_list = codes "SELECT id FROM registry_contents"

abbrev pub content_hash : List ℕ
content_hash = codes "SELECT sha256 FROM registry_contents WHERE id = ?1"

-- ---- places: a row goes (rowid, content, start, size, at)

abbrev pub place_add : List ℕ
place_add = codes "INSERT INTO registry_places (content, start, size, at) VALUES (?1, ?2, ?3, ?4)"

abbrev pub place_remove : List ℕ
place_remove = codes "DELETE FROM registry_places WHERE content = ?1"

abbrev pub place_list : List ℕ
place_list = codes "SELECT size, at FROM registry_places WHERE content = ?1 ORDER BY start"

abbrev pub place_list_all : List ℕ
place_list_all = codes "SELECT size, at FROM registry_places"

-- ---- the pack: a row goes (rowid, mark, age)

abbrev pub pack_read : List ℕ
pack_read = codes "SELECT mark, age FROM registry_pack"

abbrev pub pack_put : List ℕ
pack_put = codes "INSERT INTO registry_pack (mark, age) VALUES (?1, ?2)"

abbrev pub pack_set_age : List ℕ
pack_set_age = codes "UPDATE registry_pack SET age = ?1"

-- ---- what they mean

abbrev pub content_add_terms : List Term
content_add_terms = lit Null ∷ lit Null ∷ col 0 0 ∷ col 0 1 ∷ []

abbrev pub place_add_terms : List Term
place_add_terms = lit Null ∷ col 0 0 ∷ col 0 1 ∷ col 0 2 ∷ col 0 3 ∷ []

abbrev pub pack_put_terms : List Term
pack_put_terms = lit Null ∷ col 0 0 ∷ col 0 1 ∷ []

-- the rowid, and the row with the parameter for its age
abbrev pub pack_set_terms : List Term
pack_set_terms = col 1 0 ∷ col 1 0 ∷ col 1 1 ∷ col 0 0 ∷ []

-- the first column of the table is the parameter
abbrev pub by_first : List Term
by_first = equals 1 0 ∷ []

-- the rowid is the parameter
abbrev pub by_id : List Term
by_id = equals 0 0 ∷ []

pub record KnowsContentTexts (schema : Schema) (stands : Stands schema contents_table) : Type 0 where
  pub add : Means schema content_add (Insert stands.at (Values content_add_terms 4))
  pub remove : Means schema content_remove (deletes stands.at schema contents_table by_id)
  pub find : Means schema content_find
      (selects schema contents_table by_id (col 1 3 ∷ []) (codes "size" ∷ []))
  pub list : Means schema content_list (selects schema contents_table [] (col 1 0 ∷ []) (codes "id" ∷ []))
  pub hash : Means schema content_hash
      (selects schema contents_table by_id (col 1 2 ∷ []) (codes "sha256" ∷ []))

pub record KnowsPlaceTexts (schema : Schema) (stands : Stands schema places_table) : Type 0 where
  pub add : Means schema place_add (Insert stands.at (Values place_add_terms 5))
  pub remove : Means schema place_remove (deletes stands.at schema places_table by_first)
  pub list : Means schema place_list
      (selects_ordered schema places_table by_first (col 1 3 ∷ col 1 4 ∷ []) 2
      (codes "size" ∷ codes "at" ∷ []))
  pub list_all : Means schema place_list_all
      (selects schema places_table [] (col 1 3 ∷ col 1 4 ∷ []) (codes "size" ∷ codes "at" ∷ []))

pub record KnowsPackTexts (schema : Schema) (stands : Stands schema pack_table) : Type 0 where
  pub read : Means schema pack_read
      (selects schema pack_table [] (col 1 1 ∷ col 1 2 ∷ []) (codes "mark" ∷ codes "age" ∷ []))
  pub put : Means schema pack_put (Insert stands.at (Values pack_put_terms 3))
  pub set_age : Means schema pack_set_age (updates stands.at schema pack_table [] pack_set_terms)

-- no row goes or changes with rows of the table that go or change
abbrev pub IsAlone : Schema → Table → Type 0
IsAlone schema table = (olds news : List Row) → works schema Enforced 0 (tree_of schema table) olds news ≡ []

-- the schema has the three tables, no row goes with a row of theirs, and the texts mean what they say
pub record KnowsPlaces (schema : Schema) : Type 0 where
  pub contents : Stands schema contents_table
  pub places : Stands schema places_table
  pub pack : Stands schema pack_table
  pub apart : tree_of schema places_table ≢ tree_of schema contents_table
  pub pack_apart : (tree_of schema pack_table ≢ tree_of schema contents_table)
      × (tree_of schema pack_table ≢ tree_of schema places_table)
  pub contents_alone : IsUnreferred schema contents_table
  pub places_alone : IsUnreferred schema places_table
  pub pack_alone : IsAlone schema pack_table
  pub content_texts : KnowsContentTexts schema contents
  pub place_texts : KnowsPlaceTexts schema places
  pub pack_texts : KnowsPackTexts schema pack
