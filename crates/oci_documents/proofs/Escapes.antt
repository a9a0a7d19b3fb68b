-- What stands in a string of JSON for a text, piece by piece.
use Rattle.std.proofs.Common.{◌≡◌, ℕ, ◌+◌, ◌-◌, suc, ◌<◌, ◌≤◌, ◌==◌, ◌||◌, ◌/◌, ◌%◌, Bool, true, false, cond, not, nat_lt, List, [], ◌∷◌, ◌++◌, length, get_or, take, drop, drop-cons, one-add, add-one, take_all, Option, Some, None, refl, sym, ap, ◌∙◌, subst, append_assoc, append-nil, length-drop, arith}
use Rattle.std.specs.List.{flat_map, position, position_or_len}
use Rattle.std.specs.Char.{digit_char}
use Rattle.std.proofs.lemmas.Bool.Decides.{nat_tests}
use Rattle.std.proofs.lemmas.Grind.{flat_map-append}
use Rattle.std.proofs.lemmas.List.{take-append-drop}
use Rattle.std.proofs.lemmas.List.Quantifiers.{position-Some}
use Rattle.std.proofs.lemmas.Option.{same_Some}
use Rattle.json.specs.Print.{escape_letter, escape_byte, escape}
use Rattle.oci_types.specs.Text.{Text}
use Rattle.oci_documents.specs.Quoting.{is_escaped, short_escape}

-- ---- one byte

plain : (b : ℕ) → is_escaped b ≡ false → escape_byte b ≡ b ∷ []
unfolding escape_byte
plain b h = grind (arith, nat_tests)

pub by_letter : (b letter : ℕ) → Some letter ≡ short_escape b → 92 ∷ letter ∷ [] ≡ escape_byte b
unfolding escape_byte
by_letter b letter h = go (nat_lt 0 (escape_letter b)) _ h
  where
    go : (t : Bool) (other : Text) → Some letter ≡ cond t (Some (escape_letter b)) None → 92 ∷ letter ∷ [] ≡ cond t (92 ∷ escape_letter b ∷ []) other
    go true other h = ap (λ x. 92 ∷ x ∷ []) (same_Some letter (escape_letter b) h)
    go false other h = absurd (cc)

no_letter : (b : ℕ) → None ≡ short_escape b → nat_lt 0 (escape_letter b) ≡ false
no_letter b h = go (nat_lt 0 (escape_letter b)) h
  where
    go : (t : Bool) → None ≡ cond t (Some (escape_letter b)) None → t ≡ false
    go true h = absurd (cc)
    go false h = refl

low : (b : ℕ) → nat_lt 0 (escape_letter b) ≡ false → is_escaped b ≡ true → nat_lt b 32 ≡ true
low b none h = grind (arith, nat_tests)

pub by_digits : (b first second : ℕ) → None ≡ short_escape b → is_escaped b ≡ true → first ≡ digit_char (b / 16) → second ≡ digit_char (b % 16)
    → 92 ∷ 117 ∷ 48 ∷ 48 ∷ first ∷ second ∷ [] ≡ escape_byte b
unfolding escape_byte
by_digits b first second none h one two =
    let unlettered = no_letter b none in
    rw (unlettered, low b unlettered h, one, two) refl

-- ---- a text up to its first escape

-- what stands before it stands for itself
plain_front : (s : Text) → let n = position_or_len is_escaped s in escape (take n s) ≡ take n s
plain_front [] = refl
plain_front (b ∷ s) = go (is_escaped b) refl (plain_front s)
  where
    go : (t : Bool) → is_escaped b ≡ t → (let n = position_or_len is_escaped s in escape (take n s) ≡ take n s)
        → let n = cond (not t) (1 + position_or_len is_escaped s) 0 in escape (take n (b ∷ s)) ≡ take n (b ∷ s)
    go true e h = refl
    go false e h = rw (one-add, plain b e) (ap (λ (x : Text). b ∷ x) h)

first_at : (s : Text) (i : ℕ) → Some i ≡ position is_escaped s → position_or_len is_escaped s ≡ i
first_at s i h = go (nat_lt (position_or_len is_escaped s) (length s)) h
  where
    go : (t : Bool) → Some i ≡ cond t (Some (position_or_len is_escaped s)) None → position_or_len is_escaped s ≡ i
    go true e = sym (same_Some i (position_or_len is_escaped s) e)
    go false e = absurd (cc)

-- a byte that has an escape, and what stands before it and behind it
pub record First (s : Text) (i : ℕ) : Type 0 where
  pub within : i < length s
  pub escaped : is_escaped (get_or s i 0) ≡ true
  pub parts : (take i s ++ get_or s i 0 ∷ []) ++ take (length s - (i + 1)) (drop (i + 1) s) ≡ s
  pub text : take i s ++ escape_byte (get_or s i 0) ≡ escape (take i s ++ get_or s i 0 ∷ [])

pub first : (s : Text) (i : ℕ) → Some i ≡ position is_escaped s → First s i
first s i h =
    let there = position-Some is_escaped s i 0 (sym h) in
    let within : i < length s = there.0 in
    let here : drop i s ≡ get_or s i 0 ∷ drop (suc i) s = drop-cons s i 0 within in
    let behind : take (length s - (i + 1)) (drop (i + 1) s) ≡ drop (i + 1) s = take_all (length s - (i + 1)) (drop (i + 1) s) (omega (arith, length-drop (i + 1) s)) in
    let alike : escape (take i s) ≡ take i s = subst (λ n. escape (take n s) ≡ take n s) (first_at s i h) (plain_front s) in
    record {
      within = within;
      escaped = there.1;
      parts = ap (λ (x : Text). (take i s ++ get_or s i 0 ∷ []) ++ x) (behind ∙ ap (λ n. drop n s) (add-one i))
          ∙ append_assoc (take i s) (get_or s i 0 ∷ []) (drop (suc i) s) ∙ ap (λ (x : Text). take i s ++ x) (sym here) ∙ take-append-drop i s;
      text = sym (flat_map-append escape_byte (take i s) (get_or s i 0 ∷ []) ∙ ap (λ (x : Text). x ++ (escape_byte (get_or s i 0) ++ [])) alike ∙ ap (λ (x : Text). take i s ++ x) (append-nil (escape_byte (get_or s i 0))));
    }

-- a text that has none stands for itself
pub unescaped : (s : Text) → None ≡ position is_escaped s → s ≡ escape s
unescaped s h =
    let whole : take (position_or_len is_escaped s) s ≡ s = take_all (position_or_len is_escaped s) s (past (nat_lt (position_or_len is_escaped s) (length s)) refl h) in
    sym (subst (λ x. escape x ≡ x) whole (plain_front s))
  where
    past : (t : Bool) → nat_lt (position_or_len is_escaped s) (length s) ≡ t → None ≡ cond t (Some (position_or_len is_escaped s)) None → length s ≤ position_or_len is_escaped s
    past true is e = absurd (cc)
    past false is e = grind (arith, nat_tests)

-- what stands for two texts stands for them one behind the other
pub both : (s t escaped : Text) → escaped ≡ escape t → escape s ++ escaped ≡ escape (s ++ t)
both s t escaped is = ap (λ (x : Text). escape s ++ x) is ∙ sym (flat_map-append escape_byte s t)
