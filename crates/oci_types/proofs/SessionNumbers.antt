-- What `parse` reads of a text that begins with `1` to `9` is its session number.
use Rattle.std.proofs.Common.{◌≡◌, ℕ, ◌<◌, ◌≤◌, ◌^◌, true, false, Option, Some, None, Result, Ok, Err, ◌&&◌, nat_lt, cond, slice_index, length, sym, refl, ap, subst, ◌∙◌, arith, [], ◌∷◌, rules}
use Rattle.std.specs.Str.{all_ascii_digits}
use Rattle.std.specs.Str.Parse.{ParsesUnsigned, digits_value}
use Rattle.std.specs.Result.{OkIff}
use Rattle.std.proofs.lemmas.Bool.{lt-ltb, le-ltb, ltb-true}
use Rattle.std.proofs.lemmas.Str.Parse.{IsNumeralModel, numerals_by_value, tells_all_ascii_digits, parse_plain}
use Rattle.oci_types.specs.Text.{Text}
use Rattle.oci_types.specs.Byte.{is_between}
use Rattle.oci_types.specs.SessionNumber.{session_number_of}

own : IsNumeralModel (λ ds. all_ascii_digits ds ≡ true) (digits_value 10)
own = numerals_by_value (λ ds. all_ascii_digits ds ≡ true) tells_all_ascii_digits

-- the text is digits of which the first is not zero, and v is their number
abbrev pub number_below : ℕ → Text → Option ℕ
number_below v t = cond (all_ascii_digits t && nat_lt v (2 ^ 63)) (Some v) None

pub session_number_of-first : (t : Text) → is_between 49 57 (slice_index t 0) ≡ true → session_number_of t ≡ number_below (digits_value 10 t) t
session_number_of-first t first = ap (λ b. cond (b && all_ascii_digits t && nat_lt (digits_value 10 t) (2 ^ 63)) (Some (digits_value 10 t)) None) first

pub session_number_of-other : (t : Text) → is_between 49 57 (slice_index t 0) ≡ false → session_number_of t ≡ None
session_number_of-other t first = ap (λ b. cond (b && all_ascii_digits t && nat_lt (digits_value 10 t) (2 ^ 63)) (Some (digits_value 10 t)) None) first

-- what `parse` reads
pub parse_first : {E : Type 0} (t : Text) (r : Result ℕ E) → is_between 49 57 (slice_index t 0) ≡ true → ParsesUnsigned 64 10 t r
    → OkIff r ((all_ascii_digits t ≡ true) × (0 < length t) × (digits_value 10 t < 2 ^ 64)) (digits_value 10 t)
parse_first t r first h = parse_plain own 64 t r h (λ plus. let e : is_between 49 57 43 ≡ true = ap (is_between 49 57) (sym plus) ∙ first in cc)

-- the number that `parse` read, where it is small enough
pub session_number_of-read : {E : Type 0} (t : Text) (r : Result ℕ E) (n : ℕ) → is_between 49 57 (slice_index t 0) ≡ true → ParsesUnsigned 64 10 t r
    → r ≡ Ok n → n ≤ 9223372036854775807 → Some n ≡ session_number_of t
session_number_of-read {E} t r n first h is small =
    let P : Result ℕ E → Type 0 = λ r. OkIff r ((all_ascii_digits t ≡ true) × (0 < length t) × (digits_value 10 t < 2 ^ 64)) (digits_value 10 t) in
    let q : P (Ok n) = subst P is (parse_first t r first h) in
    let below : nat_lt (digits_value 10 t) (2 ^ 63) ≡ true = rw (← q.1) (lt-ltb n (2 ^ 63) (omega arith)) in
    ap (λ v. Some v) q.1
    ∙ sym (session_number_of-first t first
    ∙ ap (λ b. cond (b && nat_lt (digits_value 10 t) (2 ^ 63)) (Some (digits_value 10 t)) None) q.0.0
    ∙ ap (λ b. cond b (Some (digits_value 10 t)) None) below)

-- none, where it read a number that is too great
pub session_number_of-great : {E : Type 0} (t : Text) (r : Result ℕ E) (n : ℕ) → is_between 49 57 (slice_index t 0) ≡ true → ParsesUnsigned 64 10 t r
    → r ≡ Ok n → 9223372036854775807 < n → None ≡ session_number_of t
session_number_of-great {E} t r n first h is great =
    let P : Result ℕ E → Type 0 = λ r. OkIff r ((all_ascii_digits t ≡ true) × (0 < length t) × (digits_value 10 t < 2 ^ 64)) (digits_value 10 t) in
    let q : P (Ok n) = subst P is (parse_first t r first h) in
    let above : nat_lt (digits_value 10 t) (2 ^ 63) ≡ false = rw (← q.1) (le-ltb n (2 ^ 63) (omega arith)) in
    sym (session_number_of-first t first
    ∙ ap (λ b. cond (b && nat_lt (digits_value 10 t) (2 ^ 63)) (Some (digits_value 10 t)) None) q.0.0
    ∙ ap (λ b. cond b (Some (digits_value 10 t)) None) above)

number_below-none : (t : Text) → is_between 49 57 (slice_index t 0) ≡ true
    → ((all_ascii_digits t ≡ true) × (0 < length t) × (digits_value 10 t < 2 ^ 64) → ⊥) → number_below (digits_value 10 t) t ≡ None
number_below-none [] first unread = cc
number_below-none (b ∷ t) first unread =
    elim (all_ascii_digits (b ∷ t)) as (λ a. all_ascii_digits (b ∷ t) ≡ a → cond (a && nat_lt (digits_value 10 (b ∷ t)) (2 ^ 63)) (Some (digits_value 10 (b ∷ t))) None ≡ None) [
      | true ↦ λ digits. elim (nat_lt (digits_value 10 (b ∷ t)) (2 ^ 63)) as (λ x. nat_lt (digits_value 10 (b ∷ t)) (2 ^ 63) ≡ x → cond x (Some (digits_value 10 (b ∷ t))) None ≡ None) [
        | true ↦ λ below. absurd (unread (digits, search rules, (let small : digits_value 10 (b ∷ t) < 2 ^ 63 = ltb-true _ _ below in omega arith)))
        | false ↦ λ _. refl
      ] refl
      | false ↦ λ _. refl
    ] refl

-- none, where it read none
pub session_number_of-unread : {E : Type 0} (t : Text) (r : Result ℕ E) (e : E) → is_between 49 57 (slice_index t 0) ≡ true → ParsesUnsigned 64 10 t r
    → r ≡ Err e → None ≡ session_number_of t
session_number_of-unread {E} t r e first h is =
    let P : Result ℕ E → Type 0 = λ r. OkIff r ((all_ascii_digits t ≡ true) × (0 < length t) × (digits_value 10 t < 2 ^ 64)) (digits_value 10 t) in
    let q : P (Err e) = subst P is (parse_first t r first h) in
    sym (session_number_of-first t first ∙ number_below-none t first q)
