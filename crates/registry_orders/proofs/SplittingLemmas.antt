-- Texts split at their last `=`, and lists in pairs.
use Rattle.std.proofs.Common.{◌≡◌, ◌∙◌, ◌<◌, ◌+◌, ℕ, zero, suc, List, [], ◌∷◌, ◌++◌, length, take, drop, get_or, map, arith, refl, sym, subst, ap}
use Rattle.std.specs.Borrow.{Bor}
use Rattle.std.specs.Str.Pattern.{SplitsAroundMatch, RFindsChar}
use Rattle.std.proofs.lemmas.List.{take_more}
use Rattle.std.proofs.lemmas.Str.Pattern.{NoCharPasses-char, drop_at_char}
use Rattle.oci_types.specs.Text.{Text}
use Rattle.registry_orders.specs.declared.options.RepoOption.{RepoOption}
use Rattle.registry_orders.specs.declared.options.GrantOption.{GrantOption}
use Rattle.registry_orders.specs.Options.{EachPair, HasNoEquals, SpellsRepo, SpellsGrant}

halves : {X : Type 0} (n : ℕ) (xs : List X) → xs ≡ take n xs ++ drop n xs
halves zero xs = refl
halves (suc n) [] = refl
halves (suc n) (x ∷ xs) = ap (λ ys. x ∷ ys) (halves n xs)

pub at_last_equals : (s front back : Text) → SplitsAroundMatch (RFindsChar 61) s front back → (s ≡ front ++ 61 ∷ back) × HasNoEquals back
at_last_equals s front back h =
    let i = h.0 in
    let j = h.1 in
    let at : drop i s ≡ 61 ∷ drop j s = drop_at_char 61 s i j h.2.1 (omega arith) in
    let here : s ≡ take i s ++ 61 ∷ drop j s = halves i s ∙ ap (λ (x : Text). take i s ++ x) at in
    let named : s ≡ front ++ 61 ∷ back = rw (h.3, h.4) here in
    (named, subst HasNoEquals (sym h.4) (λ k less. NoCharPasses-char 61 (drop j s) k h.2.0 (omega arith) less))

module _ {A B : Type 0} (Says : A → B → Type 0) where
  pub pair_last : (xs : List A) (ys : List B) (x : A) (y : B) → EachPair Says xs ys → Says x y → EachPair Says (xs ++ x ∷ []) (ys ++ y ∷ [])
  pair_last [] [] x y each last = (last, tt)
  pair_last [] (b ∷ ys) x y each last = absurd each
  pair_last (a ∷ xs) [] x y each last = absurd each
  pair_last (a ∷ xs) (b ∷ ys) x y each last = (each.0, pair_last xs ys x y each.1 last)

  -- one pair more
  pub one_pair_more : (xs : List A) (i : ℕ) (d : A) (ys : List B) (y : B) → i < length xs
      → EachPair Says (take i xs) ys → Says (get_or xs i d) y → EachPair Says (take (i + 1) xs) (ys ++ y ∷ [])
  one_pair_more xs i d ys y less each last = rw (take_more xs i d less) (pair_last (take i xs) ys (get_or xs i d) y each last)

-- what the text of a reference spells
abbrev pub RepoAt : Bor Text → RepoOption → Type 0
RepoAt text o = SpellsRepo text.now o

abbrev pub GrantAt : Bor Text → GrantOption → Type 0
GrantAt text o = SpellsGrant text.now o

-- the texts that references point to
pub pairs_of_texts : {B : Type 0} (Says : Text → B → Type 0) (xs : List (Bor Text)) (ys : List B)
    → EachPair (λ t b. Says t.now b) xs ys → EachPair Says (map (λ t. t.now) xs) ys
pairs_of_texts Says [] [] each = tt
pairs_of_texts Says [] (y ∷ ys) each = absurd each
pairs_of_texts Says (x ∷ xs) [] each = absurd each
pairs_of_texts Says (x ∷ xs) (y ∷ ys) each = (each.0, pairs_of_texts Says xs ys each.1)
