-- Where a registry keeps the bytes of its contents: in a column of `registry_contents`, or in a pack beside
-- the database, of which rows say which bytes are whose.
use Rattle.std.specs.Prelude.{◌≡◌, ◌≢◌, ℕ, ℤ, List, [], ◌∷◌, find, Option, Some}
use Rattle.std.specs.List.{AllByRecursion}
use Rattle.sqlite.specs.Order.{Row}
use Rattle.sqlite.specs.Schema.{Schema}
use Rattle.sqlite.specs.Tree.{has_rowid}
use Rattle.sqlite.specs.Effect.{Database}
use Rattle.store_schema.specs.Rows.{bytes_at}
use Rattle.store_schema.specs.Layout.{tree_of}
use Rattle.store_contents.specs.PlaceTables.{pack_table, places_table}
use Rattle.store_contents.specs.PlaceTexts.{KnowsPlaces}
use Rattle.store_contents.specs.Places.{HoldsPlaces, content_rows, place_rows, pack_rows, places_of, joined}
use Rattle.store_contents.specs.Places as places
use Rattle.store_contents.specs.Contents.{KnowsContents, HoldsContents}
use Rattle.store_contents.specs.Contents as contents

-- in the tables, or in a pack whose bytes are these
pub data Layout : Type 0 where
  InTables : Layout
  InPack : List ℕ → Layout

-- the schema has the tables of contents, and the texts on them mean what they say
abbrev pub Knows : Layout → Schema → Type 0
Knows InTables schema = KnowsContents schema
Knows (InPack file) schema = KnowsPlaces schema

-- the digest of each content is that of the bytes at its places
abbrev pub AreHashed : List ℕ → List Row → List Row → Type 0
AreHashed file rows places =
    (id : ℤ) (row : Row) → find (has_rowid id) rows ≡ Some row
    → bytes_at row 2 ≡ contents.sha256_text (joined file (places_of places id))

pub record HoldsPack (file : List ℕ) (db : Database) : Type 0 where
  pub rows : HoldsPlaces db
  pub hashed : AreHashed file (content_rows db) (place_rows db)

-- what is kept true of the rows
abbrev pub Holds : Layout → Database → Type 0
Holds InTables db = HoldsContents db
Holds (InPack file) db = HoldsPack file db

-- the bytes of the content that has the id
abbrev pub contents_in : Layout → Database → ℤ → Option (List ℕ)
contents_in InTables db id = contents.bytes_in db id
contents_in (InPack file) db id = places.bytes_in db file id

-- the rows that say where bytes stand in the pack
abbrev pub places_in : Layout → Database → List Row
places_in InTables db = []
places_in (InPack file) db = place_rows db

-- and those that say which pack it is
abbrev pub packs_in : Layout → Database → List Row
packs_in InTables db = []
packs_in (InPack file) db = pack_rows db

-- the trees of the tables that it has beside `registry_contents`
abbrev pub further_trees : Layout → Schema → List ℕ
further_trees InTables schema = []
further_trees (InPack file) schema = tree_of schema places_table ∷ tree_of schema pack_table ∷ []

-- the schema's number, as `registry_schema` has it
abbrev pub schema_number : Layout → ℕ
schema_number InTables = 2
schema_number (InPack file) = 3

-- a table is none of these
abbrev pub IsNone : ℕ → List ℕ → Type 0
IsNone tree trees = AllByRecursion (λ other. other ≢ tree) trees
