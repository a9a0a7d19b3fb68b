-- Whether a content has a digest, as it is asked without its bytes.
use Rattle.std.specs.Prelude.{ℕ, ℤ, Bool, false, List, bytes_eq, Option}
use Rattle.std.specs.Option.{option_map_or}
use Rattle.std.specs.Ordering.{int_eq}
use Rattle.sqlite.specs.declared.types.Value.{Value}
use Rattle.sqlite.specs.declared.types.Value.TheVariants.{Text}
use Rattle.sqlite.specs.Order.{Row, column}
use Rattle.store_schema.specs.Rows.{integer_at}
use Rattle.store_contents.specs.Contents.{sha256_text}

-- of a row that a search shows
abbrev pub shows_id : ℤ → Row → Bool
shows_id id row = int_eq (integer_at row 0) id

-- the text is this
abbrev pub is_text : List ℕ → Value → Bool
is_text text (Text t) = bytes_eq t text
is_text text _ = false

-- of the row of a content in a pack: its digits are these
abbrev pub shows_digits : List ℕ → Row → Bool
shows_digits sha256 row = is_text sha256 (column row 0)

-- there are bytes, and these are the digits of their SHA-256
abbrev pub has_hash : Option (List ℕ) → List ℕ → Bool
has_hash bytes sha256 = option_map_or (λ b. bytes_eq (sha256_text b) sha256) bytes false
