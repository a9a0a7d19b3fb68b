-- What a statement makes of contents and their places.
use Rattle.std.specs.Prelude.{◌≡◌, ◌≢◌, ◌<◌, ◌+◌, ◌++◌, ◌∷◌, [], ℕ, ℤ, pos, List, filter, find, map, not, None, Some, is_some, if◌then◌else◌, IsTrue}
use Rattle.std.specs.List.{AllByRecursion}
use Rattle.std.specs.List.Sorted.{IsPermutation}
use Rattle.std.specs.Ordering.{int_eq}
use Rattle.sqlite.specs.Order.{Row}
use Rattle.sqlite.specs.declared.types.Value.TheVariants.{Null, Int, Text}
use Rattle.sqlite.specs.Table.{Table}
use Rattle.sqlite.specs.Tree.{has_rowid}
use Rattle.sqlite.specs.Effect.{Database}
use Rattle.sqlite.specs.State.{State}
use Rattle.store_schema.specs.Rows.{natural_at, PutsRow}
use Rattle.store_schema.specs.Layout.{tree_of, KeepsOthers}
use Rattle.registry_pack.specs.declared.extent.Extent.{Extent}
use Rattle.registry_pack.specs.Extents.{bytes_at, total_of}
use Rattle.store_contents.specs.PlaceTables.{contents_table, places_table}
use Rattle.store_contents.specs.Places.{content_rows, place_rows, of_content, bytes_in, HoldsPlaces, runs_of}

-- there is a content that has the id
abbrev pub has_content : Database → ℤ → Type 0
has_content db id = IsTrue (is_some (find (has_rowid id) (content_rows db)))

-- each begins before this byte
abbrev pub AreBefore : ℕ → List Row → Type 0
AreBefore start rows = AllByRecursion (λ r. natural_at r 2 < start) rows

-- a transaction is open, and the tables are such
pub record IsInside (s : State) : Type 0 where
  pub inside : IsTrue s.in_transaction
  pub holds : HoldsPlaces s.now

-- ---- what a statement makes

abbrev pub content_columns : List ℕ → ℕ → Row
content_columns sha256 size = Null ∷ Text sha256 ∷ Int (pos size) ∷ []

abbrev pub place_columns : ℤ → ℕ → ℕ → ℕ → Row
place_columns id start at size = Int id ∷ Int (pos start) ∷ Int (pos size) ∷ Int (pos at) ∷ []

-- the row of a content came, under an id that no content had
pub record PutsContent (old new : Database) (id : ℤ) (sha256 : List ℕ) (size : ℕ) : Type 0 where
  pub free : find (has_rowid id) (content_rows old) ≡ None
  pub puts : PutsRow (content_rows old) (content_rows new) id (content_columns sha256 size)
  pub places : place_rows new ≡ place_rows old
  pub others : KeepsOthers contents_table old new

-- the row of a place came
pub record PutsPlace (old new : Database) (id : ℤ) (start at size : ℕ) : Type 0 where
  pub rowid : ℤ
  pub puts : PutsRow (place_rows old) (place_rows new) rowid (place_columns id start at size)
  pub contents : content_rows new ≡ content_rows old
  pub others : KeepsOthers places_table old new

-- the rows of several places of a content came, one behind the other from this byte on
abbrev pub PutsPlaces : Database → Database → ℤ → ℕ → List Extent → Type 0
PutsPlaces old new id start [] = new ≡ old
PutsPlaces old new id start (e ∷ es) =
    (mid : Database) × PutsPlace old mid id start e.at e.size × PutsPlaces mid new id (start + e.size) es

-- ---- what a call makes

abbrev pub runs_at : List Extent → List (ℕ × ℕ)
runs_at es = map (λ (e : Extent). (e.at, e.size)) es

-- every other table keeps its rows
pub record KeepsAround (old new : Database) : Type 0 where
  pub schema : new.schema ≡ old.schema
  pub tables : AllByRecursion
      (λ (t : Table). t.tree ≢ tree_of old.schema contents_table → t.tree ≢ tree_of old.schema places_table
      → new.trees t.tree ≡ old.trees t.tree)
      old.schema.tables

-- A content came under an id that none had, with these columns. Over any file its bytes are those at the
-- extents; the bytes of all other contents are as they were.
pub record Adds (old new : Database) (id : ℤ) (sha256 : List ℕ) (extents : List Extent) : Type 0 where
  pub free : find (has_rowid id) (content_rows old) ≡ None
  pub rows : (i : ℤ) → find (has_rowid i) (content_rows new)
      ≡ (if int_eq id i then Some (Int id ∷ content_columns sha256 (total_of extents))
      else find (has_rowid i) (content_rows old))
  pub bytes : (file : List ℕ) (i : ℤ)
      → bytes_in new file i ≡ (if int_eq id i then Some (bytes_at file extents) else bytes_in old file i)
  pub runs : IsPermutation (runs_of (place_rows new)) (runs_at extents ++ runs_of (place_rows old))
  pub others : KeepsAround old new

-- the rows of its places are gone
pub record RemovesPlaces (old new : Database) (id : ℤ) : Type 0 where
  pub places : place_rows new ≡ filter (λ r. not (of_content id r)) (place_rows old)
  pub contents : content_rows new ≡ content_rows old
  pub others : KeepsOthers places_table old new

-- its own row is gone
pub record RemovesRow (old new : Database) (id : ℤ) : Type 0 where
  pub contents : content_rows new ≡ filter (λ r. not (has_rowid id r)) (content_rows old)
  pub places : place_rows new ≡ place_rows old
  pub others : KeepsOthers contents_table old new

-- A content is gone with its places, where it was there. Over any file the bytes of all others are as they
-- were.
pub record Removes (old new : Database) (id : ℤ) : Type 0 where
  pub rows : (i : ℤ) → find (has_rowid i) (content_rows new)
      ≡ (if int_eq id i then None else find (has_rowid i) (content_rows old))
  pub bytes : (file : List ℕ) (i : ℤ)
      → bytes_in new file i ≡ (if int_eq id i then None else bytes_in old file i)
  pub places : place_rows new ≡ filter (λ r. not (of_content id r)) (place_rows old)
  pub others : KeepsAround old new
