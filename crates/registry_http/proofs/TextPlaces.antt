-- Places in a text, and texts that are UTF-8.
use Rattle.std.proofs.Common.{◌≡◌, ℕ, ◌-◌, ◌<◌, Bool, true, false, length, take, drop, refl, arith, Some, None, length-drop, not}
use Rattle.std.specs.Prelude.{IsUtf8, position}
use Rattle.std.specs.List.{position_or_len}
use Rattle.std.specs.Str.{is_utf8}
use Rattle.std.proofs.lemmas.Str.{IsUtf8-from_is_utf8, is_utf8-from_IsUtf8}
use Rattle.std.proofs.lemmas.List.Sums.{prefix_len-le-length}
use Rattle.std.proofs.lemmas.Grind.{common_steps}
use Rattle.oci_types.specs.Text.{Text}
use Rattle.registry_http.specs.Asking.{text_if_utf8}
use Rattle.registry_http.proofs.HeadLemmas.{take_whole}

pub text_valid : (bs : Text) → IsUtf8 bs → Some bs ≡ text_if_utf8 bs
text_valid bs h = rw (is_utf8-from_IsUtf8 bs h)

pub text_invalid : (bs : Text) → (IsUtf8 bs → ⊥) → None ≡ text_if_utf8 bs
text_invalid bs h = by_test (is_utf8 bs) refl
  where
    by_test : (b : Bool) → is_utf8 bs ≡ b → None ≡ text_if_utf8 bs
    by_test true e = absurd (h (IsUtf8-from_is_utf8 bs e))
    by_test false e = rw e

-- ---- the first place at which a test passes

pub some_place : (p : ℕ → Bool) (bs : Text) (i : ℕ) → Some i ≡ position p bs → (i ≡ position_or_len p bs) × (i < length bs)
some_place p bs i e =
    let fits = prefix_len-le-length (λ b. not (p b)) bs in
    grind (arith, common_steps)

pub no_place : (p : ℕ → Bool) (bs : Text) → None ≡ position p bs → position_or_len p bs ≡ length bs
no_place p bs e =
    let fits = prefix_len-le-length (λ b. not (p b)) bs in
    grind (arith, common_steps)

-- what is behind the first i bytes, cut at the length
pub behind : (bs : Text) (i : ℕ) → take (length bs - i) (drop i bs) ≡ drop i bs
behind bs i = take_whole (length bs - i) (drop i bs) (omega (arith, length-drop i bs))
