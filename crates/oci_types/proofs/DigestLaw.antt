-- Digests: the test decides the grammar and the registered forms.
use Rattle.std.proofs.Common.{◌≡◌, ℕ, Bool, true, false, cond, [], ◌∷◌, ◌++◌, inl, inr, ◌==◌, ◌||◌, sym, refl, ap, ◌∙◌, length, drop}
use Rattle.std.specs.Prelude.{◌↔◌}
use Rattle.std.specs.List.{list_all}
use Rattle.std.proofs.lemmas.Bool.{and_parts, and_from, or_cases, eqb-true, eq-eqb, false≢true}
use Rattle.oci_types.specs.Text.{Text}
use Rattle.oci_types.specs.Byte.{is_lowercase_or_digit, is_lowercase_hex}
use Rattle.oci_types.specs.Language.{Language, IsIn, one, many, both, some, byte}
use Rattle.oci_types.specs.Digest.{IsDigest, IsHex, is_digest, is_hex, is_sha256, is_sha512, sha256_prefix, sha512_prefix, has_grammar, has_registered_form, is_end, place_after, digest, algorithm, algorithm_component, is_algorithm_separator, is_encoded}
use Rattle.oci_types.specs.declared.digest.Place.{Place}
use Rattle.oci_types.specs.declared.digest.Place.TheVariants.{ComponentStart, Component, EncodedStart, Encoded, Outside}
use Rattle.oci_types.proofs.Languages.{none, not_in_none, cons, regroup, ungroup, many-none, many-more, many_one, list_all-many_one, skip, more, Leads, leads-one, leads-both, leads-many, is_in_rest}
use Rattle.oci_types.proofs.Verdicts.{sha256_parts, sha512_parts}

-- ---- what the test takes is in the grammar

abbrev letter : Language
letter = one is_lowercase_or_digit

-- more components of an algorithm
abbrev components : Language
components = many (both (one is_algorithm_separator) algorithm_component)

abbrev encoded : Language
encoded = some (one is_encoded)

-- the colon and what follows it
abbrev encoded_part : Language
encoded_part = both (byte 58) encoded

-- what may follow within a component
abbrev in_component : Language
in_component = both (many letter) (both components encoded_part)

-- what is left to read at each place
abbrev rest : Place → Language
rest ComponentStart = digest
rest Component = in_component
rest EncodedStart = encoded
rest Encoded = many (one is_encoded)
rest Outside = none

step_at_start : (b : ℕ) (t : Text) (letters : Bool) → is_lowercase_or_digit b ≡ letters → IsIn (rest (cond letters Component Outside)) t → IsIn digest (b ∷ t)
step_at_start b t true is i =
    regroup algorithm_component components encoded_part (b ∷ t)
    (regroup letter (many letter) (both components encoded_part) (b ∷ t) (cons is_lowercase_or_digit in_component b t is i))
step_at_start b t false is i = absurd (not_in_none t i)

step_in_component : (b : ℕ) (t : Text) (letters separates colon : Bool)
    → is_lowercase_or_digit b ≡ letters → is_algorithm_separator b ≡ separates → (b == 58) ≡ colon
    → IsIn (rest (cond letters Component (cond separates ComponentStart (cond colon EncodedStart Outside)))) t → IsIn in_component (b ∷ t)
step_in_component b t true s e is s_is e_is i = more letter (both components encoded_part) (b ∷ t) (cons is_lowercase_or_digit in_component b t is i)
step_in_component b t false true e is s_is e_is i =
    skip letter (both components encoded_part) (b ∷ t)
    (more (both (one is_algorithm_separator) algorithm_component) encoded_part (b ∷ t)
    (regroup (one is_algorithm_separator) algorithm_component (both components encoded_part) (b ∷ t)
    (cons is_algorithm_separator (both algorithm_component (both components encoded_part)) b t s_is
    (ungroup algorithm_component components encoded_part t i))))
step_in_component b t false false true is s_is e_is i =
    skip letter (both components encoded_part) (b ∷ t)
    (skip (both (one is_algorithm_separator) algorithm_component) encoded_part (b ∷ t) (cons (λ c. c == 58) encoded b t e_is i))
step_in_component b t false false false is s_is e_is i = absurd (not_in_none t i)

step_encoded_start : (b : ℕ) (t : Text) (fits : Bool) → is_encoded b ≡ fits → IsIn (rest (cond fits Encoded Outside)) t → IsIn encoded (b ∷ t)
step_encoded_start b t true is i = cons is_encoded (many (one is_encoded)) b t is i
step_encoded_start b t false is i = absurd (not_in_none t i)

steps : (s : Place) (b : ℕ) (t : Text) → IsIn (rest (place_after s b)) t → IsIn (rest s) (b ∷ t)
steps ComponentStart b t i = step_at_start b t (is_lowercase_or_digit b) refl i
steps Component b t i = step_in_component b t (is_lowercase_or_digit b) (is_algorithm_separator b) (b == 58) refl refl refl i
steps EncodedStart b t i = step_encoded_start b t (is_encoded b) refl i
steps Encoded b t i = many-more (one is_encoded) (b ∷ t) (step_encoded_start b t (is_encoded b) refl i)
steps Outside b t i = absurd (not_in_none t i)

ends : (s : Place) → is_end s ≡ true → IsIn (rest s) []
ends ComponentStart h = absurd (false≢true h)
ends Component h = absurd (false≢true h)
ends EncodedStart h = absurd (false≢true h)
ends Encoded h = many-none (one is_encoded)
ends Outside h = absurd (false≢true h)

-- ---- what is in the grammar is taken by the test

abbrev IsComponent : Place → Type 0
IsComponent s = s ≡ Component

abbrev IsEncoded : Place → Type 0
IsEncoded s = s ≡ Encoded

abbrev IsStart : Place → Type 0
IsStart s = s ≡ ComponentStart

component_leads : (s : Place) → IsStart s → Leads place_after is_end algorithm_component s IsComponent
component_leads s at =
    leads-both place_after is_end letter (many letter) s IsComponent IsComponent
    (leads-one place_after is_end is_lowercase_or_digit s IsComponent
    (λ b h. ap (λ x. place_after x b) at ∙ ap (λ x. cond x Component Outside) h))
    (λ r in_r. leads-many place_after is_end letter r IsComponent in_r
    (λ q in_q. leads-one place_after is_end is_lowercase_or_digit q IsComponent
    (λ b h. ap (λ x. place_after x b) in_q
    ∙ ap (λ x. cond x Component (cond (is_algorithm_separator b) ComponentStart (cond (b == 58) EncodedStart Outside))) h)))

-- no separator is a letter or a digit
separator_is_no_letter : (b : ℕ) → is_algorithm_separator b ≡ true → is_lowercase_or_digit b ≡ false
separator_is_no_letter b h =
    elim (or_cases (b == 43 || b == 46 || b == 95) (b == 45) h) [
      | inl before ↦ elim (or_cases (b == 43 || b == 46) (b == 95) before) [
        | inl first ↦ elim (or_cases (b == 43) (b == 46) first) [ inl plus ↦ at 43 refl plus | inr dot ↦ at 46 refl dot ]
        | inr underscore ↦ at 95 refl underscore
      ]
      | inr dash ↦ at 45 refl dash
    ]
  where
    at : (c : ℕ) → is_lowercase_or_digit c ≡ false → (b == c) ≡ true → is_lowercase_or_digit b ≡ false
    at c other is = ap is_lowercase_or_digit (eqb-true b c is) ∙ other

separator_leads : (s : Place) → IsComponent s → Leads place_after is_end (one is_algorithm_separator) s IsStart
separator_leads s at =
    leads-one place_after is_end is_algorithm_separator s IsStart
    (λ b h. ap (λ x. place_after x b) at
    ∙ ap (λ x. cond x Component (cond (is_algorithm_separator b) ComponentStart (cond (b == 58) EncodedStart Outside))) (separator_is_no_letter b h)
    ∙ ap (λ x. cond x ComponentStart (cond (b == 58) EncodedStart Outside)) h)

algorithm_leads : Leads place_after is_end algorithm ComponentStart IsComponent
algorithm_leads =
    leads-both place_after is_end algorithm_component components ComponentStart IsComponent IsComponent (component_leads ComponentStart refl)
    (λ r in_r. leads-many place_after is_end (both (one is_algorithm_separator) algorithm_component) r IsComponent in_r
    (λ q in_q. leads-both place_after is_end (one is_algorithm_separator) algorithm_component q IsStart IsComponent (separator_leads q in_q) component_leads))

encoded_leads : (s : Place) → s ≡ EncodedStart → Leads place_after is_end encoded s IsEncoded
encoded_leads s at =
    leads-both place_after is_end (one is_encoded) (many (one is_encoded)) s IsEncoded IsEncoded
    (leads-one place_after is_end is_encoded s IsEncoded (λ b h. ap (λ x. place_after x b) at ∙ ap (λ x. cond x Encoded Outside) h))
    (λ r in_r. leads-many place_after is_end (one is_encoded) r IsEncoded in_r
    (λ q in_q. leads-one place_after is_end is_encoded q IsEncoded (λ b h. ap (λ x. place_after x b) in_q ∙ ap (λ x. cond x Encoded Outside) h)))

digest_leads : Leads place_after is_end digest ComponentStart IsEncoded
digest_leads =
    leads-both place_after is_end algorithm encoded_part ComponentStart IsComponent IsEncoded algorithm_leads
    (λ r in_r. leads-both place_after is_end (byte 58) encoded r (λ q. q ≡ EncodedStart) IsEncoded
    (leads-one place_after is_end (λ b. b == 58) r (λ q. q ≡ EncodedStart)
    (λ b h. let e : b ≡ 58 = eqb-true b 58 h in rw e (ap (λ x. place_after x 58) in_r)))
    encoded_leads)

pub has_grammar_decides : (t : Text) → (has_grammar t ≡ true) ↔ IsIn digest t
has_grammar_decides t = (is_in_rest place_after is_end rest ends steps t ComponentStart, λ i. ap is_end (digest_leads t i))

-- ---- the registered forms

pub is_hex_decides : (n : ℕ) (t : Text) → (is_hex n t ≡ true) ↔ IsHex n t
is_hex_decides n t = (
  λ h. let parts = and_parts (length t == n) (list_all is_lowercase_hex t) h in
      (many_one is_lowercase_hex t parts.1, eqb-true (length t) n parts.0),
  λ i. and_from (length t == n) (list_all is_lowercase_hex t) (eq-eqb (length t) n i.1) (list_all-many_one is_lowercase_hex t i.0),
)

-- a text with a prefix of seven bytes
has_form-sha256 : (e : Text) → has_registered_form (sha256_prefix ++ e) ≡ is_hex 64 e
has_form-sha256 e = refl

has_form-sha512 : (e : Text) → has_registered_form (sha512_prefix ++ e) ≡ is_hex 128 e
has_form-sha512 e = refl

form_of : (t : Text) (sha256 sha512 : Bool) → is_sha256 t ≡ sha256 → is_sha512 t ≡ sha512
    → ((e : Text) → t ≡ sha256_prefix ++ e → IsHex 64 e) → ((e : Text) → t ≡ sha512_prefix ++ e → IsHex 128 e)
    → cond sha256 (is_hex 64 (drop 7 t)) (cond sha512 (is_hex 128 (drop 7 t)) true) ≡ true
form_of t true b is b_is first second = (is_hex_decides 64 (drop 7 t)).1 (first (drop 7 t) (sha256_parts t is))
form_of t false true is b_is first second = (is_hex_decides 128 (drop 7 t)).1 (second (drop 7 t) (sha512_parts t b_is))
form_of t false false is b_is first second = refl

pub is_digest_decides : (t : Text) → (is_digest t ≡ true) ↔ IsDigest t
is_digest_decides t = (
  λ h. let parts = and_parts (has_grammar t) (has_registered_form t) h in
      record {
        grammar = (has_grammar_decides t).0 parts.0;
        sha256_form = λ e is. (is_hex_decides 64 e).0 (sym (has_form-sha256 e) ∙ ap has_registered_form (sym is) ∙ parts.1);
        sha512_form = λ e is. (is_hex_decides 128 e).0 (sym (has_form-sha512 e) ∙ ap has_registered_form (sym is) ∙ parts.1);
      },
  λ i. and_from (has_grammar t) (has_registered_form t) ((has_grammar_decides t).1 i.grammar)
      (form_of t (is_sha256 t) (is_sha512 t) refl refl i.sha256_form i.sha512_form),
)

-- ---- what the code's two tests tell

pub refused_by_grammar : (t : Text) (r : Bool) → r ≡ has_grammar t → r ≡ false → ¬ IsIn digest t
refused_by_grammar t r same is i = false≢true (sym is ∙ same ∙ (has_grammar_decides t).1 i)

pub refused_by_form : (t u : Text) (r s : Bool) → r ≡ has_grammar t → r ≡ true → u ≡ t → s ≡ has_registered_form u → s ≡ false
    → IsIn digest t × ¬ IsDigest t
refused_by_form t u r s same is text form refused =
    let whole : s ≡ has_registered_form t = form ∙ ap has_registered_form text in (
      (has_grammar_decides t).0 (sym same ∙ is),
      λ d. false≢true (sym refused ∙ whole ∙ (and_parts (has_grammar t) (has_registered_form t) ((is_digest_decides t).1 d)).1),
    )

pub taken_by_both : (t u : Text) (r s : Bool) → r ≡ has_grammar t → r ≡ true → u ≡ t → s ≡ has_registered_form u → s ≡ true → IsDigest t
taken_by_both t u r s same is text form taken =
    (is_digest_decides t).0 (and_from (has_grammar t) (has_registered_form t) (sym same ∙ is) (ap has_registered_form (sym text) ∙ sym form ∙ taken))
