-- Numbers that requests carry: one to nineteen digits, with or without leading zeros (profile).
use Rattle.std.specs.Prelude.{ℕ, Bool, ◌&&◌, nat_lt, nat_le, length, Option, Some, None, if◌then◌else◌}
use Rattle.std.specs.Str.{all_ascii_digits}
use Rattle.std.specs.Str.Parse.{digits_value}
use Rattle.oci_types.specs.Text.{Text}

abbrev pub is_number : Text → Bool
is_number t = nat_lt 0 (length t) && nat_le (length t) 19 && all_ascii_digits t

abbrev pub number_in : Text → Option ℕ
number_in t = if is_number t then Some (digits_value 10 t) else None
