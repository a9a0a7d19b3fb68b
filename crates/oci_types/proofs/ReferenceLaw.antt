-- References: the test decides whether a text is one.
use Rattle.std.proofs.Common.{◌≡◌, ℕ, true, false, inl, inr, [], ◌∷◌, ◌++◌, ◌||◌, ◌==◌, nat_le, length, sym, refl, ap, ◌∙◌}
use Rattle.std.specs.List.{list_all}
use Rattle.std.proofs.lemmas.List.Folds.{list_all-append}
use Rattle.std.specs.Prelude.{◌↔◌}
use Rattle.std.proofs.lemmas.Bool.{and_parts, and_from, or_cases, or_left, or_right, eqb-true, false≢true, false_from_ne_true}
use Rattle.oci_types.specs.Text.{Text}
use Rattle.oci_types.specs.Byte.{is_alphanumeric}
use Rattle.oci_types.specs.Language.{IsIn}
use Rattle.oci_types.specs.Tag.{is_tag, is_tag_start, is_tag_character, are_tag_characters}
use Rattle.oci_types.specs.Digest.{is_digest, digest}
use Rattle.oci_types.specs.Reference.{IsReference, is_reference}
use Rattle.oci_types.proofs.TagLaw.{is_tag_decides}
use Rattle.oci_types.proofs.DigestLaw.{is_digest_decides}

pub is_reference_decides : (t : Text) → (is_reference t ≡ true) ↔ IsReference t
is_reference_decides t = (
  λ h. elim (or_cases (is_tag t) (is_digest t) h) [ inl tag ↦ inl ((is_tag_decides t).0 tag) | inr digest ↦ inr ((is_digest_decides t).0 digest) ],
  λ i. elim i [
    | inl tag ↦ or_left (is_tag t) (is_digest t) ((is_tag_decides t).1 tag)
    | inr digest ↦ or_right (is_tag t) (is_digest t) ((is_digest_decides t).1 digest)
  ],
)

-- ---- no text is a tag and a digest

tag_has_no_colon : (t : Text) → is_tag t ≡ true → list_all is_tag_character t ≡ true
tag_has_no_colon [] h = refl
tag_has_no_colon (b ∷ t) h =
    let parts = and_parts (is_tag_start b) (list_all is_tag_character t) (and_parts (nat_le (length (b ∷ t)) 128) (are_tag_characters (b ∷ t)) h).1 in
    and_from (is_tag_character b) (list_all is_tag_character t) (start_is_character b parts.0) parts.1
  where
    start_is_character : (b : ℕ) → is_tag_start b ≡ true → is_tag_character b ≡ true
    start_is_character b h =
        or_left (is_alphanumeric b || b == 46 || b == 95) (b == 45)
        (elim (or_cases (is_alphanumeric b) (b == 95) h) [
          | inl letter ↦ or_left (is_alphanumeric b || b == 46) (b == 95) (or_left (is_alphanumeric b) (b == 46) letter)
          | inr underscore ↦ or_right (is_alphanumeric b || b == 46) (b == 95) underscore
        ])

digest_has_colon : (t : Text) → IsIn digest t → list_all is_tag_character t ≡ true → ⊥
unfolding IsIn
digest_has_colon t (u, v, e, i, (w, x, f, (b, h, g), j)) all =
    let whole : t ≡ u ++ (58 ∷ x) = e ∙ ap (λ y. u ++ y) (f ∙ ap (λ y. y ++ x) (g ∙ ap (λ c. c ∷ []) (eqb-true b 58 h))) in
    let parts = and_parts (list_all is_tag_character u) (list_all is_tag_character (58 ∷ x))
    (sym (list_all-append is_tag_character u (58 ∷ x)) ∙ ap (list_all is_tag_character) (sym whole) ∙ all) in
    false≢true parts.1

pub no_tag_is_digest : (t : Text) → is_tag t ≡ true → is_digest t ≡ false
no_tag_is_digest t h =
    false_from_ne_true (is_digest t) (λ d. digest_has_colon t ((is_digest_decides t).0 d).grammar (tag_has_no_colon t h))
