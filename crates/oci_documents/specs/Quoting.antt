-- Strings of JSON (RFC 8259, section 7).
use Rattle.std.specs.Prelude.{ℕ, ◌==◌, ◌||◌, Bool, nat_lt, Option, Some, None, if◌then◌else◌}
use Rattle.json.specs.Print.{escape_letter}

-- a byte that may not stand in a string as it is: a quotation mark, a backslash, or below a space
abbrev pub is_escaped : ℕ → Bool
is_escaped b = b == 34 || b == 92 || nat_lt b 32

-- the letter of its short escape, where it has one
abbrev pub short_escape : ℕ → Option ℕ
short_escape b = if nat_lt 0 (escape_letter b) then Some (escape_letter b) else None
