-- Places and digits in a text.
use Rattle.std.proofs.Common.{◌≡◌, ◌∙◌, ℕ, zero, suc, get_or, ◌+◌, ◌-◌, ◌<◌, ◌≤◌, Bool, true, false, cond, not, ◌&&◌, ◌||◌, [], ◌∷◌, length, take, drop, refl, sym, ap, arith, Some, None, length-drop}
use Rattle.std.specs.Prelude.{Option, position, nat_lt, nat_le}
use Rattle.std.specs.Char.{is_ascii_digit}
use Rattle.std.specs.List.{position_or_len, before_first, after_first, list_any, list_all}
use Rattle.std.specs.Str.{all_ascii_digits}
use Rattle.std.specs.Str.Parse.{digits_value}
use Rattle.std.proofs.Math.Bool.{and-false}
use Rattle.std.proofs.lemmas.List.Sums.{prefix_len-le-length}
use Rattle.std.proofs.lemmas.Grind.{common_steps}
use Rattle.oci_types.specs.Text.{Text}
use Rattle.registry_model.specs.declared.range.RangeVerdict.TheVariants.{Malformed}
use Rattle.registry_model.specs.Numbers.{number_in}
use Rattle.registry_model.specs.Range.{Positions, is_solidus, without_unit, is_whole_length, has_good_end, positions_of, range_in, positions_fit}

take_whole : (n : ℕ) (t : Text) → length t ≤ n → take n t ≡ t
take_whole n t h = grind (arith, common_steps)

-- ---- the first place at which a test passes

pub some_place : (p : ℕ → Bool) (t : Text) (i : ℕ) → Some i ≡ position p t → (i ≡ position_or_len p t) × (i < length t)
some_place p t i e =
    let fits = prefix_len-le-length (λ b. not (p b)) t in
    grind (arith, common_steps)

pub no_place : (p : ℕ → Bool) (t : Text) → None ≡ position p t → position_or_len p t ≡ length t
no_place p t e =
    let fits = prefix_len-le-length (λ b. not (p b)) t in
    grind (arith, common_steps)

-- what is behind the first i bytes, cut at the length
pub behind : (t : Text) (i : ℕ) → take (length t - i) (drop i t) ≡ drop i t
behind t i = take_whole (length t - i) (drop i t) (omega (arith, length-drop i t))

pub all_before : (p : ℕ → Bool) (t : Text) → position_or_len p t ≡ length t → before_first p t ≡ t
all_before p t e = ap (λ n. take n t) e ∙ take_whole (length t) t (omega arith)

-- a test passes somewhere where it has a place
pub placed : (p : ℕ → Bool) (t : Text) → position_or_len p t < length t → list_any p t ≡ true
placed p [] h = absurd (omega arith)
placed p (b ∷ t) h = step (p b) refl (placed p t)
  where
    step : (x : Bool) → p b ≡ x → (position_or_len p t < length t → list_any p t ≡ true) → list_any p (b ∷ t) ≡ true
    step true e rest = ap (λ y. y || list_any p t) e
    step false e rest =
        let at : position_or_len p (b ∷ t) ≡ 1 + position_or_len p t = ap (λ y. cond (not y) (1 + position_or_len p t) 0) e in
        ap (λ y. y || list_any p t) e ∙ rest (omega arith)

pub not_placed : (p : ℕ → Bool) (t : Text) → position_or_len p t ≡ length t → list_any p t ≡ false
not_placed p [] h = refl
not_placed p (b ∷ t) h = step (p b) refl (not_placed p t)
  where
    step : (x : Bool) → p b ≡ x → (position_or_len p t ≡ length t → list_any p t ≡ false) → list_any p (b ∷ t) ≡ false
    step true e rest =
        let at : position_or_len p (b ∷ t) ≡ 0 = ap (λ y. cond (not y) (1 + position_or_len p t) 0) e in
        absurd (omega arith)
    step false e rest =
        let at : position_or_len p (b ∷ t) ≡ 1 + position_or_len p t = ap (λ y. cond (not y) (1 + position_or_len p t) 0) e in
        ap (λ y. y || list_any p t) e ∙ rest (omega arith)

-- ---- digits

pub digits_all : (t : Text) → all_ascii_digits t ≡ list_all is_ascii_digit t
digits_all [] = refl
digits_all (b ∷ t) = ap (λ x. is_ascii_digit b && x) (digits_all t)

not_all : (t : Text) (i : ℕ) → i < length t → is_ascii_digit (get_or t i 0) ≡ false → all_ascii_digits t ≡ false
not_all [] i h e = absurd (omega arith)
not_all (b ∷ t) zero h e = ap (λ x. x && all_ascii_digits t) e
not_all (b ∷ t) (suc i) h e = ap (λ x. is_ascii_digit b && x) (not_all t i (omega arith) e) ∙ and-false (is_ascii_digit b)

none_if : (x y z : Bool) (o : Option ℕ) → z ≡ false → None ≡ cond (x && y && z) o None
none_if true true z o e = ap (λ b. cond b o None) (sym e)
none_if true false z o e = refl
none_if false y z o e = refl

-- a text with another byte is no number
pub no_number : (t : Text) (i : ℕ) → i < length t → is_ascii_digit (get_or t i 0) ≡ false → None ≡ number_in t
no_number t i h e = none_if (nat_lt 0 (length t)) (nat_le (length t) 19) (all_ascii_digits t) (Some (digits_value 10 t)) (not_all t i h e)

-- ---- a range behind its unit

abbrev range_of : Text → Option Positions
range_of t = cond (has_good_end t) (positions_of (before_first is_solidus t)) None

module _ (v t : Text) (n b : ℕ) (same : t ≡ without_unit v) where
  pub whole_range : list_any is_solidus t ≡ false → before_first is_solidus t ≡ t → positions_fit (positions_of t) n b ≡ positions_fit (range_in v) n b
  whole_range none before =
      ap (λ u. positions_fit (positions_of u) n b) (sym before)
      ∙ ap (λ x. positions_fit (cond (not x || is_whole_length (after_first is_solidus t)) (positions_of (before_first is_solidus t)) None) n b) (sym none)
      ∙ ap (λ u. positions_fit (range_of u) n b) same

  pub cut_range : list_any is_solidus t ≡ true → is_whole_length (after_first is_solidus t) ≡ true → positions_fit (positions_of (before_first is_solidus t)) n b ≡ positions_fit (range_in v) n b
  cut_range some good =
      ap (λ x. positions_fit (cond x (positions_of (before_first is_solidus t)) None) n b) (sym good)
      ∙ ap (λ x. positions_fit (cond (not x || is_whole_length (after_first is_solidus t)) (positions_of (before_first is_solidus t)) None) n b) (sym some)
      ∙ ap (λ u. positions_fit (range_of u) n b) same

  pub bad_range : list_any is_solidus t ≡ true → is_whole_length (after_first is_solidus t) ≡ false → Malformed ≡ positions_fit (range_in v) n b
  bad_range some bad =
      ap (λ x. positions_fit (cond x (positions_of (before_first is_solidus t)) None) n b) (sym bad)
      ∙ ap (λ x. positions_fit (cond (not x || is_whole_length (after_first is_solidus t)) (positions_of (before_first is_solidus t)) None) n b) (sym some)
      ∙ ap (λ u. positions_fit (range_of u) n b) same
