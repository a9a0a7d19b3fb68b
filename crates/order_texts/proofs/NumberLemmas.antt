-- Numbers in decimal, with no sign and no leading zero.
use Rattle.std.proofs.Common.{◌≡◌, ℕ, ◌<◌, ◌≤◌, ◌^◌, Bool, true, false, [], ◌∷◌, ◌||◌, Result, Ok, Err, inl, inr, nat_le, slice_index, length, sym, refl, ap, ◌∙◌, arith, get_or, MatchOption, decimal, bytes_eq, codes}
use Rattle.std.specs.Result.{result_ok}
use Rattle.std.specs.Str.{all_ascii_digits}
use Rattle.std.specs.Str.Parse.{digits_value, ParsesUnsigned}
use Rattle.std.proofs.lemmas.Bool.{and_parts, and_from, or_cases, cases_eq, leb-true, le-leb, false≢true}
use Rattle.std.proofs.lemmas.Fmt.{decimal_is_IsNumeral, decimal_digit, decimal-digits_value, first_decimal, parse-decimal, decimal_injective}
use Rattle.std.proofs.lemmas.Slice.Eq.{bytes_eq-Decides}
use Rattle.std.proofs.lemmas.Str.Parse.{IsNumeralModel, numerals_by_value, tells_all_ascii_digits, digit_at, parse_plain}
use Rattle.oci_types.specs.Text.{Text}
use Rattle.oci_types.specs.Byte.{is_between}
use Rattle.registry_model.specs.declared.quota.Quota.{Quota}
use Rattle.order_texts.specs.Reading.{begins_plainly}

own : IsNumeralModel (λ ds. all_ascii_digits ds ≡ true) (digits_value 10)
own = numerals_by_value (λ ds. all_ascii_digits ds ≡ true) tells_all_ascii_digits

or_right : (a b : Bool) → b ≡ true → (a || b) ≡ true
or_right true b h = refl
or_right false b h = h

or_left : (a b : Bool) → a ≡ true → (a || b) ≡ true
or_left true b h = refl
or_left false b h = absurd (false≢true h)

-- the decimal of a number begins so
begins_decimal : (n : ℕ) → n < 2 ^ 64 → begins_plainly (decimal n) ≡ true
begins_decimal n wide = elim (cases_eq n 0) [
  | inl is_zero ↦
      let zero_text : decimal n ≡ 48 ∷ [] = ap decimal is_zero ∙ decimal_digit 0 (omega arith) in
      or_left (bytes_eq (decimal n) (codes "0")) (is_between 49 57 (slice_index (decimal n) 0)) ((bytes_eq-Decides (decimal n) (codes "0")).1 zero_text)
  | inr not_zero ↦
      let numeral = decimal_is_IsNumeral n wide in
      let bounds = digit_at (decimal n) 0 numeral.0.1 numeral.0.0 in
      let above : 48 < get_or (decimal n) 0 0 = first_decimal n (omega (arith, not_zero)) wide in
      or_right (bytes_eq (decimal n) (codes "0")) (is_between 49 57 (slice_index (decimal n) 0))
      (and_from (nat_le 49 (slice_index (decimal n) 0)) (nat_le (slice_index (decimal n) 0) 57)
      (le-leb 49 (slice_index (decimal n) 0) (omega arith)) (le-leb (slice_index (decimal n) 0) 57 (omega (arith, bounds))))
]

pub plain_decimal : (t : Text) (n : ℕ) → begins_plainly t ≡ false → n < 2 ^ 64 → t ≡ decimal n → ⊥
plain_decimal t n not_plain wide is = false≢true (sym not_plain ∙ ap begins_plainly is ∙ begins_decimal n wide)

-- what begins so has no sign, and no zero in front of other digits
no_sign : (t : Text) → begins_plainly t ≡ true → (48 ≤ get_or t 0 0) × (get_or t 0 0 ≤ 57) × (get_or t 0 0 ≡ 48 → length t ≡ 1)
no_sign t plain = elim (or_cases (bytes_eq t (codes "0")) (is_between 49 57 (slice_index t 0)) plain) [
  | inl zero ↦
      let is : t ≡ 48 ∷ [] = (bytes_eq-Decides t (codes "0")).0 zero in
      let first : get_or t 0 0 ≡ 48 = ap (λ x. get_or x 0 0) is in
      (omega arith, omega arith, λ e. ap length is)
  | inr digit ↦
      let parts = and_parts (nat_le 49 (slice_index t 0)) (nat_le (slice_index t 0) 57) digit in
      let low : 49 ≤ get_or t 0 0 = leb-true 49 (slice_index t 0) parts.0 in
      let high : get_or t 0 0 ≤ 57 = leb-true (slice_index t 0) 57 parts.1 in
      (omega arith, omega arith, λ e. absurd (omega arith))
]

-- what is read of such a text
pub number_read : {E : Type 0} (t : Text) (r : Result ℕ E) → begins_plainly t ≡ true → ParsesUnsigned 64 10 t r
    → MatchOption (result_ok r) ((n : ℕ) → n < 2 ^ 64 → t ≡ decimal n → ⊥) (λ n. t ≡ decimal n)
number_read {E} t (Ok x) plain parsed =
    let front = no_sign t plain in
    let value = parse_plain own {E = E} 64 t (Ok x) parsed (λ e. absurd (omega (arith, front))) in
    let same : decimal (digits_value 10 t) ≡ t = decimal-digits_value own t value.0.0 value.0.1 front.2 value.0.2 in
    sym same ∙ ap decimal (sym value.1)
number_read {E} t (Err e) plain parsed = λ n wide is. let h : Err e ≡ Ok n = parse-decimal {E = E} 64 n t (Err e) wide wide is parsed in cc

pub quota_is_small : (q : Quota) → q.bytes < 9223372036854775808
quota_is_small q = q.in_range

pub decimal_same : (m n : ℕ) → m < 2 ^ 64 → n < 2 ^ 64 → decimal m ≡ decimal n → m ≡ n
decimal_same m n a b e = decimal_injective m n a b e
