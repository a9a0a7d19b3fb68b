-- Tokens (RFC 6750, section 2.1, `b64token`; the limit of 200 bytes is the profile's).
use Rattle.std.specs.Prelude.{ℕ, Bool, true, false, ◌==◌, ◌||◌, ◌&&◌, nat_le, if◌then◌else◌, length, ◌≤◌}
use Rattle.std.specs.List.{fold}
use Rattle.oci_types.specs.Text.{Text}
use Rattle.oci_types.specs.Byte.{is_alphanumeric}
use Rattle.oci_types.specs.Language.{Language, IsIn, both, many, some, one, byte}
use Rattle.oci_types.specs.declared.token.Place.{Place}
use Rattle.oci_types.specs.declared.token.Place.TheVariants.{Start, Character, Padding, Outside}

-- `[A-Za-z0-9._~+/-]`
abbrev pub is_token_character : ℕ → Bool
is_token_character b = is_alphanumeric b || b == 46 || b == 95 || b == 126 || b == 43 || b == 47 || b == 45

-- `[A-Za-z0-9._~+/-]+=*`
abbrev pub b64token : Language
b64token = both (some (one is_token_character)) (many (byte 61))

-- a token: such a text of at most 200 bytes
abbrev pub IsToken : Text → Type 0
IsToken t = IsIn b64token t × (length t ≤ 200)

-- ---- the test

-- where one more byte leads
abbrev pub place_after : Place → ℕ → Place
place_after Start b = if is_token_character b then Character else Outside
place_after Character b = if is_token_character b then Character else if b == 61 then Padding else Outside
place_after Padding b = if b == 61 then Padding else Outside
place_after Outside b = Outside

-- a token may end there
abbrev pub is_end : Place → Bool
is_end Character = true
is_end Padding = true
is_end _ = false

-- the text is a `b64token`
abbrev pub is_b64token : Text → Bool
is_b64token t = is_end (fold place_after Start t)

abbrev pub is_token : Text → Bool
is_token t = nat_le (length t) 200 && is_b64token t
