use Rattle.std.proofs.Common.{ℕ, ◌≡◌, ◌<◌, ◌≤◌, ◌^◌, ◌*◌, ◌+◌, true, get_or, add-one, arith, sym, ◌∙◌}
use native.Mathlib.Nat.{pow-le-pow_right, pow-suc}
use Rattle.std.proofs.lemmas.Int.Digits.{digits_value_more}
use Rattle.std.proofs.lemmas.List.Folds.{list_all_more}
use Rattle.std.specs.Char.{is_ascii_digit}
use Rattle.std.proofs.lemmas.Str.{digit_value_digit}
use Rattle.registry_model.proofs.PlacesAndDigits.{no_number}
use Rattle.registry_model.proofs.numbers.number.Goals as goal

few_digits : (n i : ℕ) → n < 10 ^ i → i ≤ 18 → n < 1000000000000000000
few_digits n i h le = let p : 10 ^ i ≤ 10 ^ 18 = pow-le-pow_right {n = 10} (omega arith) {i = i} {j = 18} le in omega arith

one_more : (n i d : ℕ) → n < 10 ^ i → d < 10 → n * 10 + d < 10 ^ (i + 1)
one_more n i d h dh = rw (add-one, pow-suc) (omega arith)

pub overflow_mul-number : goal.overflow_mul-number
overflow_mul-number c = let h = few_digits c.loop-digit.number c.loop-digit.digit-index c.loop-digit.invariant.small (omega arith) in omega arith

pub overflow_add-number : goal.overflow_add-number
overflow_add-number c = let h = few_digits c.loop-digit.number c.loop-digit.digit-index c.loop-digit.invariant.small (omega arith) in omega arith

pub loop-digit-preserved : goal.loop-digit-preserved
loop-digit-preserved c =
    let x = get_or c.args.text.now c.loop-digit.digit-index 0 in
    let test : is_ascii_digit x ≡ true = sym c.is_ascii_digit.ensures.value ∙ c.if-not-is_ascii_digit.false in
    let range = c.if-not-is_ascii_digit.ensures.cases in
    let digit = digit_value_digit x range in
    let value = c.loop-digit.invariant.value in
    record {
      value = sym (digits_value_more 10 c.args.text.now c.loop-digit.digit-index c.loop-digit-test.true ∙ omega (arith, range, digit, value, c.from.ensures));
      small = one_more _ _ _ c.loop-digit.invariant.small (omega (arith, range, c.from.ensures));
      digits = list_all_more is_ascii_digit c.args.text.now c.loop-digit.digit-index 0 c.loop-digit-test.true ∙ rw (c.loop-digit.invariant.digits, test);
    }

pub returns-then-not-is_ascii_digit : goal.returns-then-not-is_ascii_digit
returns-then-not-is_ascii_digit c =
    no_number c.args.text.now c.loop-digit.digit-index c.loop-digit-test.true (sym c.is_ascii_digit.ensures.value ∙ c.if-not-is_ascii_digit.true)
