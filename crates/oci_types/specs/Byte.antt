-- The classes of bytes that the grammars name.
use Rattle.std.specs.Prelude.{ℕ, Bool, ◌||◌, ◌&&◌, nat_le}

abbrev pub is_between : ℕ → ℕ → ℕ → Bool
is_between low high b = nat_le low b && nat_le b high

-- `[0-9]`
abbrev pub is_digit : ℕ → Bool
is_digit = is_between 48 57

-- `[a-z]`
abbrev pub is_lowercase : ℕ → Bool
is_lowercase = is_between 97 122

-- `[A-Z]`
abbrev pub is_uppercase : ℕ → Bool
is_uppercase = is_between 65 90

-- `[a-z0-9]`
abbrev pub is_lowercase_or_digit : ℕ → Bool
is_lowercase_or_digit b = is_lowercase b || is_digit b

-- `[a-zA-Z0-9]`
abbrev pub is_alphanumeric : ℕ → Bool
is_alphanumeric b = is_lowercase b || is_uppercase b || is_digit b

-- `[a-f0-9]`
abbrev pub is_lowercase_hex : ℕ → Bool
is_lowercase_hex b = is_between 97 102 b || is_digit b
