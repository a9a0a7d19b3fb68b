-- Tags (OCI Distribution Specification 1.1, Pulling manifests): `[a-zA-Z0-9_][a-zA-Z0-9._-]{0,127}`.
use Rattle.std.specs.Prelude.{ℕ, Bool, false, [], ◌∷◌, ◌==◌, ◌||◌, ◌&&◌, nat_le, length, ◌≤◌}
use Rattle.std.specs.List.{list_all}
use Rattle.oci_types.specs.Text.{Text}
use Rattle.oci_types.specs.Byte.{is_alphanumeric}
use Rattle.oci_types.specs.Language.{Language, IsIn, both, many, one}

-- `[a-zA-Z0-9_]`
abbrev pub is_tag_start : ℕ → Bool
is_tag_start b = is_alphanumeric b || b == 95

-- `[a-zA-Z0-9._-]`
abbrev pub is_tag_character : ℕ → Bool
is_tag_character b = is_alphanumeric b || b == 46 || b == 95 || b == 45

-- `[a-zA-Z0-9_][a-zA-Z0-9._-]*`
abbrev pub tag_characters : Language
tag_characters = both (one is_tag_start) (many (one is_tag_character))

-- a tag: such a text of at most 128 bytes
abbrev pub IsTag : Text → Type 0
IsTag t = IsIn tag_characters t × (length t ≤ 128)

-- ---- the test

-- the first byte may begin a tag, and the others go on with it
abbrev pub are_tag_characters : Text → Bool
are_tag_characters [] = false
are_tag_characters (b ∷ t) = is_tag_start b && list_all is_tag_character t

abbrev pub is_tag : Text → Bool
is_tag t = nat_le (length t) 128 && are_tag_characters t
