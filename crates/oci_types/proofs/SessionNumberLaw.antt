-- Session numbers: a text writes n exactly where it is the decimal of n, from 1 to 2 ^ 63 - 1.
use Rattle.std.proofs.Common.{◌≡◌, ℕ, ◌<◌, ◌≤◌, ◌^◌, Bool, true, false, cond, [], ◌∷◌, Some, None, ◌&&◌, inl, inr, nat_lt, nat_le, slice_index, length, sym, refl, ap, subst, ◌∙◌, arith, get_or}
use Rattle.std.specs.Prelude.{◌↔◌}
use Rattle.std.specs.Str.{all_ascii_digits}
use Rattle.std.specs.Str.Parse.{digits_value}
use Rattle.std.specs.Fmt.{decimal}
use Rattle.std.proofs.lemmas.Bool.{and_parts, and_from, cases_eq, lt-ltb, ltb-true, leb-true, le-leb, false≢true}
use Rattle.std.proofs.lemmas.Str.Parse.{IsNumeralModel, numerals_by_value, tells_all_ascii_digits, digit_at}
use Rattle.std.proofs.lemmas.Fmt.{decimal_is_IsNumeral, decimal_digit, decimal-digits_value, digits_decimal, digits_value-decimal, first_decimal}
use Rattle.oci_types.specs.Text.{Text}
use Rattle.oci_types.specs.Byte.{is_between}
use Rattle.oci_types.specs.SessionNumber.{is_session_number, session_number_of}

own : IsNumeralModel (λ ds. all_ascii_digits ds ≡ true) (digits_value 10)
own = numerals_by_value (λ ds. all_ascii_digits ds ≡ true) tells_all_ascii_digits

nonempty : (t : Text) → is_between 49 57 (slice_index t 0) ≡ true → 0 < length t
nonempty [] h = absurd (false≢true h)
nonempty (b ∷ t) h = omega arith

first_bounds : (b : ℕ) → is_between 49 57 b ≡ true → (49 ≤ b) × (b ≤ 57)
first_bounds b h =
    let parts = and_parts (nat_le 49 b) (nat_le b 57) h in
    (leb-true 49 b parts.0, leb-true b 57 parts.1)

-- the text of a session number is the decimal of its number, which is not zero
read_back : (t : Text) → is_session_number t ≡ true → (t ≡ decimal (digits_value 10 t)) × (1 ≤ digits_value 10 t) × (digits_value 10 t < 2 ^ 63)
read_back t h =
    let parts = and_parts (is_between 49 57 (slice_index t 0) && all_ascii_digits t) (nat_lt (digits_value 10 t) (2 ^ 63)) h in
    let front = and_parts (is_between 49 57 (slice_index t 0)) (all_ascii_digits t) parts.0 in
    let bounds : (49 ≤ slice_index t 0) × (slice_index t 0 ≤ 57) = first_bounds (slice_index t 0) front.0 in
    let small : digits_value 10 t < 2 ^ 63 = ltb-true (digits_value 10 t) (2 ^ 63) parts.1 in
    let same : decimal (digits_value 10 t) ≡ t =
    decimal-digits_value own t front.1 (nonempty t front.0) (λ zero_first. absurd (omega arith)) (omega arith) in
    let positive : 1 ≤ digits_value 10 t = elim (cases_eq (digits_value 10 t) 0) [
      | inl is_zero ↦
          let zero_text : t ≡ 48 ∷ [] = sym same ∙ ap decimal is_zero ∙ decimal_digit 0 (omega arith) in
          let zero_first : slice_index t 0 ≡ 48 = ap (λ x. slice_index x 0) zero_text in
          absurd (omega arith)
      | inr not_zero ↦ omega (arith, not_zero)
    ] in
    (sym same, positive, small)

-- the decimal of a number in the range is its text
taken : (n : ℕ) → 1 ≤ n → n < 2 ^ 63 → is_session_number (decimal n) ≡ true
taken n positive small =
    let wide : n < 2 ^ 64 = omega arith in
    let numeral = decimal_is_IsNumeral n wide in
    let bounds = digit_at (decimal n) 0 numeral.0.1 numeral.0.0 in
    let above : 48 < get_or (decimal n) 0 0 = first_decimal n (omega arith) wide in
    let first : is_between 49 57 (slice_index (decimal n) 0) ≡ true =
    and_from (nat_le 49 (slice_index (decimal n) 0)) (nat_le (slice_index (decimal n) 0) 57)
    (le-leb 49 (slice_index (decimal n) 0) (omega arith)) (le-leb (slice_index (decimal n) 0) 57 (omega (arith, bounds))) in
    let value : digits_value 10 (decimal n) ≡ n = digits_value-decimal own n wide in
    and_from (is_between 49 57 (slice_index (decimal n) 0) && all_ascii_digits (decimal n)) (nat_lt (digits_value 10 (decimal n)) (2 ^ 63))
    (and_from (is_between 49 57 (slice_index (decimal n) 0)) (all_ascii_digits (decimal n)) first (digits_decimal own n wide))
    (lt-ltb (digits_value 10 (decimal n)) (2 ^ 63) (omega (arith, value)))

number_is : (t : Text) (b : Bool) (n : ℕ) → is_session_number t ≡ b → cond b (Some (digits_value 10 t)) None ≡ Some n
    → (t ≡ decimal n) × (1 ≤ n) × (n < 2 ^ 63)
number_is t true n is e =
    let value : digits_value 10 t ≡ n = cc in
    let P : ℕ → Type 0 = λ m. (t ≡ decimal m) × (1 ≤ m) × (m < 2 ^ 63) in
    subst P value (read_back t is)
number_is t false n is e = cc

pub session_number_of_decides : (t : Text) (n : ℕ) → (session_number_of t ≡ Some n) ↔ ((t ≡ decimal n) × (1 ≤ n) × (n < 2 ^ 63))
session_number_of_decides t n = (
  number_is t (is_session_number t) n refl,
  λ h. let wide : n < 2 ^ 64 = omega arith in
      ap session_number_of h.0
      ∙ ap (λ b. cond b (Some (digits_value 10 (decimal n))) None) (taken n h.1 h.2)
      ∙ ap (λ v. Some v) (digits_value-decimal own n wide),
)
