-- How a content is looked for: by the digest, and then by its bytes.
use Rattle.std.specs.Prelude.{◌≡◌, ◌&&◌, ℕ, ℤ, Bool, true, false, List, [], ◌∷◌, bytes_eq, slice_get, Option, Some, None, option_map, IfSome}
use Rattle.std.specs.List.{list_any}
use Rattle.std.specs.Ordering.{is_eq}
use Rattle.sqlite.specs.declared.types.Value.{Value}
use Rattle.sqlite.specs.declared.types.Value.TheVariants.{Int, Blob}
use Rattle.sqlite.specs.Order.{Row, column, value_cmp}
use Rattle.sqlite.specs.Held.{Held}
use Rattle.sqlite.specs.Given.{Advances}
use Rattle.sqlite_trees.specs.declared.store.Store.{Ghosts}
use Rattle.sqlite.specs.declared.error.Error.{Error}
use Rattle.sqlite.specs.declared.error.Error.TheVariants.{SqliteFailure}
use Rattle.sqlite.specs.declared.error.ErrorCode.TheVariants.{OutOfMemory}
use Rattle.oci_types.specs.declared.fault.Fault.{Fault}
use Rattle.oci_types.specs.declared.fault.Fault.TheVariants.{Memory, Storage}
use Rattle.store_schema.specs.Rows.{bytes_at}

abbrev pub has_sha256 : List ℕ → Row → Bool
has_sha256 text r = bytes_eq (bytes_at r 2) text

-- what a search shows of a content: its id and its bytes
abbrev pub found_columns : Row → Row
found_columns r = column r 0 ∷ column r 4 ∷ []

abbrev pub is_blob : List ℕ → Value → Bool
is_blob bytes (Blob b) = bytes_eq b bytes
is_blob bytes _ = false

abbrev pub blob_of : Value → Option (List ℕ)
blob_of (Blob b) = Some b
blob_of _ = None

-- the bytes in the next row of an answer, where there is one
abbrev pub next_bytes : Option Row → Option (List ℕ)
next_bytes None = None
next_bytes (Some row) = blob_of (column row 0)

-- a query goes on by one row, which has these bytes
abbrev pub GivesBytes : {S : Type 0} → Ghosts S → Held S → Held S → Option (List ℕ) → Type 0
GivesBytes g old new bytes = (next : Option Row) × Advances g old new next × (bytes ≡ next_bytes next)

-- of a row that a search shows
abbrev pub shows_bytes : List ℕ → Row → Bool
shows_bytes bytes row = is_blob bytes (column row 1)

abbrev pub shows_content : ℤ → List ℕ → Row → Bool
shows_content id bytes row = is_eq (value_cmp (column row 0) (Int id)) && shows_bytes bytes row

-- a row shows these bytes, with this id, or none does
pub record ShowsFirst (bytes : List ℕ) (rows : List Row) (o : Option ℤ) : Type 0 where
  pub none : o ≡ None → list_any (shows_bytes bytes) rows ≡ false
  pub some : IfSome o (λ id. list_any (shows_content id bytes) rows ≡ true)

-- of the one row that a read shows, if there is one
abbrev pub first_bytes : List Row → Option (List ℕ)
first_bytes rows = option_map (λ r. bytes_at r 0) (slice_get rows 0)

-- what an error of the database is to a caller
abbrev pub fault_by : Error → Fault
fault_by (SqliteFailure OutOfMemory) = Memory
fault_by _ = Storage
