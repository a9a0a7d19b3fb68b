-- The words of an order are of printing characters, none of them a space.
use Rattle.std.proofs.Common.{◌≡◌, ℕ, ◌<◌, ◌≤◌, ◌^◌, ◌==◌, true, false, [], ◌∷◌, nat_le, refl, arith, decimal, All}
use Rattle.std.proofs.lemmas.Bool.{and_parts, and_from, le-leb}
use Rattle.std.proofs.lemmas.Bool.Decides.{nat_tests}
use Rattle.std.proofs.lemmas.List.Elements.{All-nil, All-cons}
use Rattle.std.specs.Prelude.{IsUtf8}
use Rattle.std.specs.Str.Parse.{AllDigits}
use Rattle.std.proofs.lemmas.Fmt.{decimal_is_IsNumeral}
use Rattle.std.proofs.lemmas.Str.{IsUtf8-from_ascii}
use Rattle.std.proofs.lemmas.Str.Parse.{digit_from_value}
use Rattle.oci_types.specs.Text.{Text}
use Rattle.oci_types.specs.Byte.{is_lowercase_or_digit}
use Rattle.oci_types.specs.RepoName.{is_repo_name, component, path}
use Rattle.oci_types.proofs.RepoNameLaw.{is_repo_name_decides}
use Rattle.oci_types.proofs.PlainTokens.{is_printing, plain, bounds, Prints, prints, printing_byte, ascii_at}

printing_word : (b : ℕ) → is_lowercase_or_digit b ≡ true → is_printing b ≡ true
printing_word b h = grind (arith, nat_tests)

prints_component : Prints component
prints_component = (
  (printing_word, printing_word),
  (
    (printing_byte 46 refl, (printing_byte 95 refl, ((printing_byte 95 refl, printing_byte 95 refl), (printing_byte 45 refl, printing_byte 45 refl)))),
    (printing_word, printing_word),
  ),
)

pub plain_name : (t : Text) → is_repo_name t ≡ true → plain t ≡ true
plain_name t h = prints path (prints_component, (printing_byte 47 refl, prints_component)) t ((is_repo_name_decides t).0 h).0

-- ---- numbers

plain_digits : (t : Text) → AllDigits 10 t → plain t ≡ true
plain_digits [] h = refl
plain_digits (b ∷ t) h =
    let range = digit_from_value b h.0 in
    and_from (is_printing b) (plain t) (and_from (nat_le 33 b) (nat_le b 126) (le-leb 33 b (omega (arith, range.0))) (le-leb b 126 (omega (arith, range.1)))) (plain_digits t h.1)

pub plain_decimal : (n : ℕ) → n < 2 ^ 64 → plain (decimal n) ≡ true
plain_decimal n wide = plain_digits (decimal n) (decimal_is_IsNumeral n wide).0.1

-- ---- what follows of printing characters

pub has_no_space : (t : Text) → plain t ≡ true → All (λ b. (b == 32) ≡ false) t
has_no_space [] h = All-nil (λ b. (b == 32) ≡ false)
has_no_space (b ∷ t) h =
    let parts = and_parts (is_printing b) (plain t) h in
    let low : 33 ≤ b = (bounds b parts.0).0 in
    All-cons (λ b. (b == 32) ≡ false) b t (grind (arith, nat_tests)) (has_no_space t parts.1)

pub is_utf8 : (t : Text) → plain t ≡ true → IsUtf8 t
is_utf8 t h = IsUtf8-from_ascii t (λ i. ascii_at t i h)
