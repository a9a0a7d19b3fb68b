-- Numbers of upload sessions (profile): decimal without leading zeros, 1 to 9,223,372,036,854,775,807.
use Rattle.std.specs.Prelude.{ℕ, Bool, Option, Some, None, ◌^◌, nat_lt, ◌&&◌, if◌then◌else◌, slice_index}
use Rattle.std.specs.Str.{all_ascii_digits}
use Rattle.std.specs.Str.Parse.{digits_value}
use Rattle.oci_types.specs.Text.{Text}
use Rattle.oci_types.specs.Byte.{is_between}

-- digits, of which the first is not zero, of a number below 2 ^ 63
abbrev pub is_session_number : Text → Bool
is_session_number t =
    is_between 49 57 (slice_index t 0) && all_ascii_digits t && nat_lt (digits_value 10 t) (2 ^ 63)

-- The number that the text writes: `Some n` exactly where the text is the decimal of n and
-- 1 ≤ n < 2 ^ 63, as `session_number_decimal` says.
abbrev pub session_number_of : Text → Option ℕ
session_number_of t = if is_session_number t then Some (digits_value 10 t) else None
