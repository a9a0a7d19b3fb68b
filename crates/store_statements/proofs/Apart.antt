-- Elements that are apart from one another, and how many entries a map of them has.
use Rattle.std.proofs.Common.{◌≡◌, ◌+◌, List, [], ◌∷◌, length, Bool, true, false, cond, None, Some, refl, ap, ◌∙◌, arith}
use Rattle.std.specs.Prelude.{filter, find, is_some}
use Rattle.std.specs.List.{AllByRecursion}
use Rattle.std.specs.Ordering.{eq_by_cmp}
use Rattle.std.specs.declared.cmp.Ordering.{Ordering}
use Rattle.std.specs.Cmp.{IsTotalOrder}
use Rattle.std.specs.FinMap as finite
use Rattle.std.specs.FinMap.{get, len, from_entries, get-from_entries, len-insert, len-empty}
use Rattle.sqlite.specs.Tree.{IsAscending}

module _ {X : Type 0} where
  pub none_passes : (p : X → Bool) (xs : List X) → AllByRecursion (λ x. p x ≡ false) xs → find p xs ≡ None
  none_passes p [] h = refl
  none_passes p (x ∷ xs) h = ap (λ b. cond b (Some x) (find p xs)) h.0 ∙ none_passes p xs h.1

  -- of elements that pass a test more may be said
  pub apart_within : (p : X → Bool) (R S : X → X → Type 0) → ((a b : X) → p a ≡ true → p b ≡ true → R a b → S a b) → (xs : List X) → IsAscending R xs → IsAscending S (filter p xs)
  apart_within p R S more [] h = tt
  apart_within p R S more (x ∷ xs) h = step (p x) refl (apart_within p R S more xs h.1)
    where
      others : p x ≡ true → (ys : List X) → AllByRecursion (R x) ys → AllByRecursion (S x) (filter p ys)
      others e [] all = tt
      others e (y ∷ ys) all = one (p y) refl (others e ys all.1)
        where
          one : (b : Bool) → p y ≡ b → AllByRecursion (S x) (filter p ys) → AllByRecursion (S x) (cond b (y ∷ filter p ys) (filter p ys))
          one true f left = (more x y e f all.0, left)
          one false f left = left

      step : (b : Bool) → p x ≡ b → IsAscending S (filter p xs) → IsAscending S (cond b (x ∷ filter p xs) (filter p xs))
      step true e left = (others e xs h.0, left)
      step false e left = left

module _ {K X : Type 0} {R : K → K → Ordering} (o : IsTotalOrder R) where
  none_tied : (k : K) (es : List (K × X)) → AllByRecursion (λ e. eq_by_cmp R k e.0 ≡ false) es → finite.find R k es ≡ None
  none_tied k [] h = refl
  none_tied k (e ∷ es) h = ap (λ b. cond b (Some e.1) (finite.find R k es)) h.0 ∙ none_tied k es h.1

  -- a map of entries whose keys are apart has as many
  pub len_apart : (es : List (K × X)) → IsAscending (λ a b. eq_by_cmp R a.0 b.0 ≡ false) es → len (from_entries {R = R} es) ≡ length es
  len_apart [] h = len-empty R X
  len_apart (e ∷ es) h =
      let m = from_entries {R = R} es in
      let fresh : is_some (get m e.0) ≡ false = ap is_some (get-from_entries o es e.0 ∙ none_tied e.0 es h.0) in
      let more = len_apart es h.1 in
      len-insert o m e.0 e.1 ∙ ap (λ b. cond b (len m) (len m + 1)) fresh ∙ omega (arith, more)
