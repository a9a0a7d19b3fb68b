-- Texts of printing characters, none of them a space, as tokens are; they may be cut anywhere.
use Rattle.std.proofs.Common.{◌≡◌, ℕ, zero, suc, ◌<◌, ◌≤◌, ◌==◌, Bool, true, [], ◌∷◌, ◌&&◌, ◌++◌, List, inl, inr, length, nat_le, refl, ap, ◌∙◌, arith, get_or, All}
use Rattle.std.specs.Str.{IsCharBoundary}
use Rattle.std.proofs.lemmas.Bool.{and_parts, and_from, leb-true, eqb-true}
use Rattle.std.proofs.lemmas.Bool.Decides.{nat_tests}
use Rattle.std.proofs.lemmas.List.Elements.{All-head, All-tail}
use Rattle.std.proofs.lemmas.Str.{IsCharBoundary-from_ascii}
use Rattle.oci_types.specs.Text.{Text}
use Rattle.oci_types.specs.Byte.{is_between}
use Rattle.oci_types.specs.Language.{Language, IsIn, one, nothing, both, either, many, joined}
use Rattle.oci_types.specs.Token.{is_token, is_token_character, b64token}
use Rattle.oci_types.proofs.TokenLaw.{is_token_decides}

abbrev pub is_printing : ℕ → Bool
is_printing b = is_between 33 126 b

abbrev pub plain : Text → Bool
plain [] = true
plain (b ∷ t) = is_printing b && plain t

pub bounds : (b : ℕ) → is_printing b ≡ true → (33 ≤ b) × (b ≤ 126)
bounds b h =
    let parts = and_parts (nat_le 33 b) (nat_le b 126) h in
    (leb-true 33 b parts.0, leb-true b 126 parts.1)

-- ---- grammars

plain-append : (u v : Text) → plain u ≡ true → plain v ≡ true → plain (u ++ v) ≡ true
plain-append [] v h k = k
plain-append (b ∷ u) v h k =
    let parts = and_parts (is_printing b) (plain u) h in
    and_from (is_printing b) (plain (u ++ v)) parts.0 (plain-append u v parts.1 k)

plain-joined : (P : Text → Type 0) (each : (t : Text) → P t → plain t ≡ true) (ts : List Text) → All P ts → plain (joined ts) ≡ true
plain-joined P each [] all = refl
plain-joined P each (t ∷ ts) all =
    plain-append t (joined ts) (each t (All-head P t ts all)) (plain-joined P each ts (All-tail P t ts all))

-- each byte of the grammar is printing
abbrev pub Prints : Language → Type 0
Prints (one p) = (b : ℕ) → p b ≡ true → is_printing b ≡ true
Prints nothing = Unit {0}
Prints (both l m) = Prints l × Prints m
Prints (either l m) = Prints l × Prints m
Prints (many l) = Prints l

-- and so is each of its texts
pub prints : (l : Language) → Prints l → (t : Text) → IsIn l t → plain t ≡ true
unfolding IsIn
prints (one p) h t (b, is, e) = ap plain e ∙ and_from (is_printing b) true (h b is) refl
prints nothing h t e = ap plain e
prints (both l m) h t (u, v, e, i, j) = ap plain e ∙ plain-append u v (prints l h.0 u i) (prints m h.1 v j)
prints (either l m) h t (inl i) = prints l h.0 t i
prints (either l m) h t (inr i) = prints m h.1 t i
prints (many l) h t (us, e, all) = ap plain e ∙ plain-joined (IsIn l) (prints l h) us all

pub printing_byte : (c : ℕ) → is_printing c ≡ true → (b : ℕ) → (b == c) ≡ true → is_printing b ≡ true
printing_byte c h b e = ap is_printing (eqb-true b c e) ∙ h

printing_character : (b : ℕ) → is_token_character b ≡ true → is_printing b ≡ true
printing_character b h = grind (arith, nat_tests)

pub plain_token : (t : Text) → is_token t ≡ true → plain t ≡ true
plain_token t h =
    prints b64token ((printing_character, printing_character), printing_byte 61 refl) t ((is_token_decides t).0 h).0

-- ---- cuts

pub ascii_at : (t : Text) (i : ℕ) → plain t ≡ true → get_or t i 0 < 128
ascii_at [] i h = omega arith
ascii_at (b ∷ t) zero h = let high : b ≤ 126 = (bounds b (and_parts (is_printing b) (plain t) h).0).1 in omega arith
ascii_at (b ∷ t) (suc i) h = ascii_at t i (and_parts (is_printing b) (plain t) h).1

pub cut_anywhere : (t : Text) (i : ℕ) → is_token t ≡ true → i ≤ length t → IsCharBoundary t i
cut_anywhere t i h short = IsCharBoundary-from_ascii t i (λ k. ascii_at t k (plain_token t h)) short
