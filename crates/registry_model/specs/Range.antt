-- Where a chunk's bytes stand in their upload (OCI Distribution Specification 1.1, Pushing a blob in chunks).
use Rattle.std.specs.Prelude.{ℕ, ◌+◌, ◌-◌, ◌==◌, Bool, not, ◌&&◌, ◌||◌, nat_lt, length, take, drop, Option, Some, None, codes, bytes_eq, if◌then◌else◌}
use Rattle.std.specs.List.{before_first, after_first, list_any}
use Rattle.std.specs.Str.{str_eq_ignore_ascii_case, all_ascii_digits}
use Rattle.oci_types.specs.Text.{Text}
use Rattle.registry_model.specs.declared.range.RangeVerdict.{RangeVerdict}
use Rattle.registry_model.specs.declared.range.RangeVerdict.TheVariants.{Fits, Malformed, OutOfOrder, Unequal}
use Rattle.registry_model.specs.Numbers.{number_in}

abbrev pub is_dash : ℕ → Bool
is_dash b = b == 45

abbrev pub is_solidus : ℕ → Bool
is_solidus b = b == 47

-- "bytes", in any case, and a space may stand before it and say nothing (profile)
abbrev pub without_unit : Text → Text
without_unit t = if str_eq_ignore_ascii_case (take 6 t) (codes "bytes ") then drop 6 t else t

-- "/" and "*" or digits may stand behind it and say nothing (profile)
abbrev pub is_whole_length : Text → Bool
is_whole_length t = bytes_eq t (codes "*") || (nat_lt 0 (length t) && all_ascii_digits t)

abbrev pub has_good_end : Text → Bool
has_good_end t = not (list_any is_solidus t) || is_whole_length (after_first is_solidus t)

-- the first and the last position, where the dash parts them
pub record Positions : Type 0 where
  pub first : ℕ
  pub last : ℕ

abbrev pub positions_from : Option ℕ → Option ℕ → Option Positions
positions_from (Some first) (Some last) =
    if nat_lt last first then None else Some (record { first = first; last = last })
positions_from _ _ = None

abbrev pub positions_of : Text → Option Positions
positions_of t =
    if list_any is_dash t
    then positions_from (number_in (before_first is_dash t)) (number_in (after_first is_dash t)) else None

-- a range, `[0-9]+-[0-9]+`, whose last position is not before its first
abbrev pub range_in : Text → Option Positions
range_in value =
    let t = without_unit value in if has_good_end t then positions_of (before_first is_solidus t) else None

-- it begins where the upload ends, and has the body's length
abbrev pub positions_fit : Option Positions → ℕ → ℕ → RangeVerdict
positions_fit None size length = Malformed
positions_fit (Some e) size length =
    if not (e.first == size) then OutOfOrder
    else (if not (e.last - e.first + 1 == length) then Unequal else Fits)

-- with no range the body follows what is there (profile)
abbrev pub range_verdict : Option Text → ℕ → ℕ → RangeVerdict
range_verdict None size length = Fits
range_verdict (Some value) size length = positions_fit (range_in value) size length
