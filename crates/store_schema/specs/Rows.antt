-- What a row has in a column, by the column's type.
use Rattle.std.specs.Prelude.{◌≡◌, ℕ, ℤ, pos, negsuc, List, ◌∷◌, ◌++◌, IsTrue}
use Rattle.std.specs.List.{AllByRecursion}
use Rattle.sqlite.specs.declared.types.Value.{Value}
use Rattle.sqlite.specs.declared.types.Value.TheVariants.{Null, Int, Real, Text, Blob}
use Rattle.sqlite.specs.Order.{Row, column, bytes}
use Rattle.sqlite.specs.Tree.{rowid, IsTable}
use Rattle.sqlite_trees.specs.View.{is_int}

-- the bytes of a text or of a blob
abbrev pub bytes_at : Row → ℕ → List ℕ
bytes_at row at = bytes (column row at)

abbrev pub IsTextAt : Row → ℕ → Type 0
IsTextAt row at = column row at ≡ Text (bytes_at row at)

abbrev pub IsBlobAt : Row → ℕ → Type 0
IsBlobAt row at = column row at ≡ Blob (bytes_at row at)

abbrev pub integer : Value → ℤ
integer Null = pos 0
integer (Int n) = n
integer (Real x) = pos 0
integer (Text t) = pos 0
integer (Blob b) = pos 0

abbrev pub integer_at : Row → ℕ → ℤ
integer_at row at = integer (column row at)

abbrev pub IsIntegerAt : Row → ℕ → Type 0
IsIntegerAt row at = column row at ≡ Int (integer_at row at)

abbrev pub natural : ℤ → ℕ
natural (pos n) = n
natural (negsuc n) = 0

-- a number that is not negative
abbrev pub natural_at : Row → ℕ → ℕ
natural_at row at = natural (integer_at row at)

abbrev pub IsNaturalAt : Row → ℕ → Type 0
IsNaturalAt row at = column row at ≡ Int (pos (natural_at row at))

-- the rows have rowids, which rise
abbrev pub HaveIds : List Row → Type 0
HaveIds rows = IsTable rows × AllByRecursion (λ r. IsTrue (is_int (rowid r))) rows

-- one row was put in, under this rowid and with these columns
pub record PutsRow (olds news : List Row) (id : ℤ) (columns : Row) : Type 0 where
  pub before : List Row
  pub after : List Row
  pub olds_are : olds ≡ before ++ after
  pub news_are : news ≡ before ++ (Int id ∷ columns) ∷ after
