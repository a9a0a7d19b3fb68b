-- What is above all others comes last in their order.
use Rattle.std.proofs.Common.{◌≡◌, List, [], ◌∷◌, ◌++◌, Bool, true, false, cond, refl, ap, ◌∙◌}
use Rattle.std.specs.List.{AllByRecursion}
use Rattle.std.specs.Cmp.{IsTotalOrder}
use Rattle.std.specs.Ordering.{is_gt, ordering_reverse}
use Rattle.std.specs.declared.cmp.Ordering.{Ordering}
use Rattle.std.specs.declared.cmp.Ordering.TheVariants.{Less}
use Rattle.std.proofs.lemmas.List.Sorted.{IsPermutation-sym}
use Rattle.sqlite_trees.proofs.ListLemmas.{all-permutation}
use Rattle.sqlite_keyed.specs.Lists.{sort_by, insert_sorted}
use Rattle.sqlite_keyed.proofs.SortLemmas.{IsPermutation-sort_by}

module _ {X : Type 0} (cmp : X → X → Ordering) (total : IsTotalOrder cmp) where
  pub all-sort_by : (P : X → Type 0) (xs : List X) → AllByRecursion P xs → AllByRecursion P (sort_by cmp xs)
  all-sort_by P xs h = all-permutation P xs (sort_by cmp xs) (IsPermutation-sym _ _ (IsPermutation-sort_by cmp total xs)) h

  pub all_unsorted : (P : X → Type 0) (xs : List X) → AllByRecursion P (sort_by cmp xs) → AllByRecursion P xs
  all_unsorted P xs h = all-permutation P (sort_by cmp xs) xs (IsPermutation-sort_by cmp total xs) h

  last_in : (x : X) (ys : List X) → AllByRecursion (λ y. cmp y x ≡ Less) ys → insert_sorted cmp x ys ≡ ys ++ x ∷ []
  last_in x [] below = refl
  last_in x (y ∷ ys) below = ap (λ b. cond b (y ∷ insert_sorted cmp x ys) (x ∷ y ∷ ys)) (ap is_gt (total.antisymm x y ∙ ap ordering_reverse below.0)) ∙ ap (λ l. y ∷ l) (last_in x ys below.1)

  before_last : (x y : X) (ys : List X) → cmp y x ≡ Less → insert_sorted cmp y (ys ++ x ∷ []) ≡ insert_sorted cmp y ys ++ x ∷ []
  before_last x y [] below = ap (λ o. cond (is_gt o) (x ∷ y ∷ []) (y ∷ x ∷ [])) below
  before_last x y (z ∷ ys) below = step (is_gt (cmp y z)) (before_last x y ys below)
    where
      step : (b : Bool) → insert_sorted cmp y (ys ++ x ∷ []) ≡ insert_sorted cmp y ys ++ x ∷ [] → cond b (z ∷ insert_sorted cmp y (ys ++ x ∷ [])) (y ∷ z ∷ ys ++ x ∷ []) ≡ cond b (z ∷ insert_sorted cmp y ys) (y ∷ z ∷ ys) ++ x ∷ []
      step true more = ap (λ l. z ∷ l) more
      step false more = refl

  pub sorted_last : (x : X) (before after : List X) → AllByRecursion (λ y. cmp y x ≡ Less) (before ++ after) → sort_by cmp (before ++ x ∷ after) ≡ sort_by cmp (before ++ after) ++ x ∷ []
  sorted_last x [] after below = last_in x (sort_by cmp after) (all-sort_by (λ y. cmp y x ≡ Less) after below)
  sorted_last x (y ∷ before) after below = ap (insert_sorted cmp y) (sorted_last x before after below.1) ∙ before_last x y (sort_by cmp (before ++ after)) below.0
