-- The keys of a table's rows, and what is left of the rows once those of each listed key are gone in turn.
use Rattle.std.specs.Prelude.{ℕ, List, [], ◌∷◌}
use Rattle.sqlite.specs.Order.{Row}
use Rattle.oci_types.specs.Text.{Text}
use Rattle.store_schema.specs.Rows.{bytes_at, natural_at}
use Rattle.store_statements.specs.Keys.{has_key, of_session}
use Rattle.store_statements.specs.Changes.{without}

-- of blobs and manifests: repository and digest
abbrev pub key_of : Row → Text × Text
key_of r = (bytes_at r 1, bytes_at r 2)

-- of sessions: repository and number
abbrev pub session_of : Row → Text × ℕ
session_of r = (bytes_at r 1, natural_at r 2)

abbrev pub left_by_keys : List (Text × Text) → List Row → List Row
left_by_keys [] rows = rows
left_by_keys (k ∷ ks) rows = left_by_keys ks (without (has_key k.0 k.1) rows)

abbrev pub left_by_sessions : List (Text × ℕ) → List Row → List Row
left_by_sessions [] rows = rows
left_by_sessions (k ∷ ks) rows = left_by_sessions ks (without (of_session k.0 k.1) rows)
