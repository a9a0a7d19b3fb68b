-- Contents whose bytes stand in a file: the rows that say where, and which bytes an id stands for.
use Rattle.std.specs.Prelude.{◌≡◌, ◌+◌, ◌==◌, ◌&&◌, ℕ, ℤ, Bool, false, List, filter, find, map, slice_range, Option, option_map, is_some, IsTrue}
use Rattle.std.specs.declared.cmp.Ordering.{Ordering}
use Rattle.std.specs.List.{AllByRecursion, concat}
use Rattle.std.specs.Ordering.{int_eq, nat_cmp}
use Rattle.sqlite.specs.Order.{Row}
use Rattle.sqlite.specs.Tree.{IsAscending, has_rowid}
use Rattle.sqlite.specs.Effect.{Database}
use Rattle.sqlite_keyed.specs.Lists.{sort_by}
use Rattle.store_schema.specs.Rows.{IsIntegerAt, IsNaturalAt, IsTextAt, integer_at, natural_at, HaveIds}
use Rattle.store_schema.specs.Layout.{rows_of}
use Rattle.store_contents.specs.PlaceTables.{pack_table, contents_table, places_table}
use Rattle.store_contents.specs.PlaceTexts.{KnowsPlaces}

abbrev pub content_rows : Database → List Row
content_rows db = rows_of db contents_table

abbrev pub place_rows : Database → List Row
place_rows db = rows_of db places_table

abbrev pub pack_rows : Database → List Row
pack_rows db = rows_of db pack_table

-- the place is one of this content
abbrev pub of_content : ℤ → Row → Bool
of_content id r = int_eq (integer_at r 1) id

-- they are of one content and begin at one byte of it
abbrev pub same_place : Row → Row → Bool
same_place a b = of_content (integer_at a 1) b && natural_at b 2 == natural_at a 2

-- where its bytes begin in the content
abbrev pub by_start : Row → Row → Ordering
by_start a b = nat_cmp (natural_at a 2) (natural_at b 2)

-- the places of a content, in the order of its bytes
abbrev pub places_of : List Row → ℤ → List Row
places_of rows id = sort_by by_start (filter (of_content id) rows)

-- the bytes of a file at a place
abbrev pub bytes_of : List ℕ → Row → List ℕ
bytes_of file r = slice_range file (natural_at r 4) (natural_at r 4 + natural_at r 3)

abbrev pub joined : List ℕ → List Row → List ℕ
joined file rows = concat (map (bytes_of file) rows)

-- the bytes of the content that has the id, of rows and a file together
abbrev pub bytes_in : Database → List ℕ → ℤ → Option (List ℕ)
bytes_in db file id =
    option_map (λ _. joined file (places_of (place_rows db) id)) (find (has_rowid id) (content_rows db))

-- ---- what is kept true of the rows

pub record IsContentRow (r : Row) : Type 0 where
  pub sha256 : IsTextAt r 2
  pub size : IsNaturalAt r 3

pub record IsPlaceRow (r : Row) : Type 0 where
  pub content : IsIntegerAt r 1
  pub start : IsNaturalAt r 2
  pub size : IsNaturalAt r 3
  pub at : IsNaturalAt r 4

-- the content of each place is there
abbrev pub AreOwned : List Row → List Row → Type 0
AreOwned contents places =
    AllByRecursion (λ r. IsTrue (is_some (find (has_rowid (integer_at r 1)) contents))) places

-- no two places of a content begin at one byte of it
abbrev pub HaveStarts : List Row → Type 0
HaveStarts places = IsAscending (λ a b. same_place a b ≡ false) places

pub record HoldsPlaces (db : Database) : Type 0 where
  pub known : KnowsPlaces db.schema
  pub contents : AllByRecursion IsContentRow (content_rows db)
  pub places : AllByRecursion IsPlaceRow (place_rows db)
  pub content_ids : HaveIds (content_rows db)
  pub place_ids : HaveIds (place_rows db)
  pub pack_ids : HaveIds (pack_rows db)
  pub owned : AreOwned (content_rows db) (place_rows db)
  pub apart : HaveStarts (place_rows db)

-- which bytes of a file places name: their offset and their number
abbrev pub runs_of : List Row → List (ℕ × ℕ)
runs_of rows = map (λ r. (natural_at r 4, natural_at r 3)) rows
