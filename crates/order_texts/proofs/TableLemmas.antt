-- Numbers in columns.
use Rattle.std.proofs.Common.{◌≡◌, ℕ, zero, suc, ◌-◌, List, [], ◌∷◌, ◌++◌, length, replicate, arith, refl, ap, append-nil}
use Rattle.std.specs.List.{repeat}
use Rattle.std.specs.Char.{encode_utf8}
use Rattle.std.specs.Fmt.{decimal, padded_integral, char_count, format_spec, styled_decimal}
use Rattle.order_texts.specs.Table.{right}

spaces : (k : ℕ) → repeat k (encode_utf8 32) ≡ replicate k 32
unfolding encode_utf8
spaces zero = refl
spaces (suc k) = ap (λ x. 32 ∷ x) (spaces k)

abbrev wanting : ℕ → List ℕ → ℕ
wanting places text = places - length text - 0 - 0

-- with no sign and no prefix, all that is wanting stands before the digits
right_with : (places : ℕ) (text : List ℕ) → repeat (wanting places text) (encode_utf8 32) ++ [] ++ [] ++ [] ++ (text ++ repeat (wanting places text - wanting places text) (encode_utf8 32)) ≡ replicate (places - length text) 32 ++ text
right_with places text =
    let none : wanting places text - wanting places text ≡ 0 = omega arith in
    let all : wanting places text ≡ places - length text = omega arith in
    let before : List ℕ = replicate (places - length text) 32 in
    rw (none, all, spaces (places - length text), append-nil before, append-nil before, append-nil before, append-nil text) refl

pub in_20_places : (n : ℕ) → styled_decimal (format_spec 32 3 0 20 18446744073709551615) n ≡ right 20 n
unfolding padded_integral char_count
in_20_places n = right_with 20 (decimal n)

pub in_10_places : (n : ℕ) → styled_decimal (format_spec 32 3 0 10 18446744073709551615) n ≡ right 10 n
unfolding padded_integral char_count
in_10_places n = right_with 10 (decimal n)
