-- The table of contents: bytes by their ids, each once (profile).
use Rattle.std.specs.Prelude.{◌≡◌, ◌≢◌, ◌⊎◌, ℕ, ℤ, pos, Bool, false, if◌then◌else◌, List, find, bytes_eq, length, Option, Some, None, option_map, IsTrue}
use Rattle.std.specs.List.{AllByRecursion}
use Rattle.std.specs.Ordering.{int_eq}
use Rattle.sha2.specs.Sha256.{sha256}
use Rattle.hex.specs.Hex.{encode_lower}
use Rattle.sqlite.specs.Order.{Row, column}
use Rattle.sqlite.specs.declared.types.Value.TheVariants.{Int}
use Rattle.sqlite.specs.Tree.{has_rowid, IsAscending}
use Rattle.sqlite.specs.Schema.{Schema}
use Rattle.sqlite.specs.Effect.{Database}
use Rattle.sqlite.specs.State.{State}
use Rattle.store_schema.specs.Schema.{contents_table}
use Rattle.store_schema.specs.Rows.{bytes_at, IsTextAt, IsBlobAt, HaveIds}
use Rattle.store_schema.specs.Layout.{rows_of, Stands, IsUnreferred, KeepsOthers}
use Rattle.store_contents.specs.Texts.{KnowsTexts}

-- the 64 lower-case hexadecimal digits of the SHA-256 (FIPS 180-4)
unfoldable pub sha256_text : List ℕ → List ℕ
sha256_text bytes = encode_lower (sha256 bytes)

abbrev pub content_rows : Database → List Row
content_rows db = rows_of db contents_table

-- the bytes of the content that has the id
abbrev pub bytes_in : Database → ℤ → Option (List ℕ)
bytes_in db id = option_map (λ r. bytes_at r 4) (find (has_rowid id) (content_rows db))

-- ---- what is kept true of the table

abbrev pub has_bytes : List ℕ → Row → Bool
has_bytes bytes r = bytes_eq (bytes_at r 4) bytes

-- the columns agree with the bytes
pub record IsContentRow (r : Row) : Type 0 where
  pub sha256 : IsTextAt r 2
  pub size : column r 3 ≡ Int (pos (length (bytes_at r 4)))
  pub bytes : IsBlobAt r 4
  pub hashed : bytes_at r 2 ≡ sha256_text (bytes_at r 4)

abbrev pub AreContentRows : List Row → Type 0
AreContentRows rows = AllByRecursion IsContentRow rows

-- no two rows have equal bytes
abbrev pub AreApart : List Row → Type 0
AreApart = IsAscending (λ a b. has_bytes (bytes_at a 4) b ≡ false)

-- the schema has the table, no row goes with a content, and the texts mean what they say
pub record KnowsContents (schema : Schema) : Type 0 where
  pub stands : Stands schema contents_table
  pub alone : IsUnreferred schema contents_table
  pub texts : KnowsTexts schema stands

pub record HoldsContents (db : Database) : Type 0 where
  pub known : KnowsContents db.schema
  pub rows : AreContentRows (content_rows db)
  pub apart : AreApart (content_rows db)
  pub ids : HaveIds (content_rows db)

-- no two ids have equal bytes
abbrev pub BytesHaveOneId : Type 0
BytesHaveOneId =
    (db : Database) → HoldsContents db → (i j : ℤ) (bytes : List ℕ)
    → bytes_in db i ≡ Some bytes → bytes_in db j ≡ Some bytes → i ≡ j

-- a transaction is open, and the table is one of contents
pub record IsInside (s : State) : Type 0 where
  pub inside : IsTrue s.in_transaction
  pub contents : HoldsContents s.now

-- ---- what the calls make

-- the content that has the bytes was there, and nothing changes
pub record Finds (old new : Database) (id : ℤ) (bytes : List ℕ) : Type 0 where
  pub there : bytes_in old id ≡ Some bytes
  pub same : new ≡ old

-- no content had the bytes, and now a new one does; all others stay, as do all other tables
pub record Adds (old new : Database) (id : ℤ) (bytes : List ℕ) : Type 0 where
  pub nowhere : (i : ℤ) → bytes_in old i ≢ Some bytes
  pub free : bytes_in old id ≡ None
  pub contents : (i : ℤ) → bytes_in new i ≡ (if int_eq id i then Some bytes else bytes_in old i)
  pub others : KeepsOthers contents_table old new

abbrev pub FindsOrAdds : Database → Database → ℤ → List ℕ → Type 0
FindsOrAdds old new id bytes = Finds old new id bytes ⊎ Adds old new id bytes

-- the content is gone, where it was there; all others stay, as do all other tables
pub record Removes (old new : Database) (id : ℤ) : Type 0 where
  pub contents : (i : ℤ) → bytes_in new i ≡ (if int_eq id i then None else bytes_in old i)
  pub others : KeepsOthers contents_table old new
