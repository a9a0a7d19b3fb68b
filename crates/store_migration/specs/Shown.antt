-- What the columns of a row read as.
use Rattle.std.specs.Prelude.{⊤, ℕ, List, [], ◌∷◌, Option, Vec, option_map, string_bytes}
use Rattle.std.specs.declared.alloc.Global.{Global}
use Rattle.sqlite.specs.Order.{Row}
use Rattle.oci_types.specs.Text.{Text}
use Rattle.store_schema.specs.Rows.{bytes_at, natural_at}
use Rattle.store_migration.specs.declared.old_keys.Key.{Key}
use Rattle.store_migration.specs.declared.old_keys.SessionKey.{SessionKey}

-- a key, as `key_of` and `session_of` have it of a row
abbrev pub key_shown : Key → Text × Text
key_shown k = (string_bytes k.repo, string_bytes k.digest)

abbrev pub session_shown : SessionKey → Text × ℕ
session_shown k = (string_bytes k.repo, k.number)

-- the first two columns
abbrev pub two_texts : Row → Text × Text
two_texts r = (bytes_at r 0, bytes_at r 1)

abbrev pub text_and_number : Row → Text × ℕ
text_and_number r = (bytes_at r 0, natural_at r 1)

-- each row shows the value at its place, and there are no others
abbrev pub AllShown : {K : Type 0} → (Row → K → Type 0) → List Row → List K → Type 0
AllShown Shows [] [] = ⊤
AllShown Shows [] (k ∷ keys) = ⊥
AllShown Shows (r ∷ rows) [] = ⊥
AllShown Shows (r ∷ rows) (k ∷ keys) = Shows r k × AllShown Shows rows keys

-- the bytes that a vector holds, if there is one
abbrev pub shown : Option (Vec ℕ Global) → Option Text
shown o = option_map (λ v. v.items) o
