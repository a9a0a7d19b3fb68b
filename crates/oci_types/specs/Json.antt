-- JSON texts with no space (RFC 8259).
use Rattle.std.specs.Prelude.{List, [], ◌∷◌, ◌++◌}
use Rattle.oci_types.specs.Text.{Text}
-- a string with the shortest escapes
pub use Rattle.json.specs.Print.{quoted}

-- texts with commas between them
abbrev pub with_commas : List Text → Text
with_commas [] = []
with_commas (t ∷ []) = t
with_commas (t ∷ u ∷ ts) = t ++ 44 ∷ with_commas (u ∷ ts)
