-- Rows that pass a test, sorted, are the sorted rows that pass it; and the entries of the map of rows are the rows sorted by their keys.
use Rattle.std.proofs.Common.{◌≡◌, ◌+◌, ℕ, List, [], ◌∷◌, map, length, Bool, true, false, cond, refl, sym, ap, ◌∙◌, arith, true≢false, Ordering, Less, Equal, Greater}
use Rattle.std.specs.Prelude.{filter, sum_by}
use Rattle.std.specs.List.{AllByRecursion}
use Rattle.std.specs.Ordering.{is_gt, is_eq, eq_by_cmp, ordering_reverse}
use Rattle.std.specs.Cmp.{IsTotalOrder}
use Rattle.std.specs.FinMap.{entries, values, empty, from_entries, put, entries-insert, len-entries, len-empty}
use Rattle.std.specs.FinMap.Entries.{by_order}
use Rattle.std.proofs.lemmas.Cmp.{on_total, upto}
use Rattle.std.proofs.lemmas.List.Sums.{sum_by-cons}
use Rattle.std.proofs.lemmas.List.Sorted.{IsPermutation-sym, sum_by-IsPermutation}
use Rattle.sqlite.specs.Order.{Row}
use Rattle.sqlite.specs.Tree.{IsAscending}
use Rattle.sqlite_trees.proofs.ListLemmas.{all_weaker, all-permutation, ascending-map, map-map, all-filter}
use Rattle.sqlite_keyed.specs.Lists.{insert_sorted, sort_by}
use Rattle.sqlite_keyed.proofs.SortLemmas.{IsPermutation-sort_by, sort_by-map}

-- ---- sorted lists

module _ {X : Type 0} (cmp : X → X → Ordering) (total : IsTotalOrder cmp) where
  abbrev AtMost : X → X → Type 0
  AtMost a b = is_gt (cmp a b) ≡ false

  turned : (o : Ordering) → is_gt o ≡ true → is_gt (ordering_reverse o) ≡ false
  turned Less e = absurd (true≢false (sym e))
  turned Equal e = absurd (true≢false (sym e))
  turned Greater e = refl

  all_inserted : (P : X → Type 0) (new : X) (xs : List X) → P new → AllByRecursion P xs → AllByRecursion P (insert_sorted cmp new xs)
  all_inserted P new [] it all = (it, tt)
  all_inserted P new (x ∷ xs) it all = step (is_gt (cmp new x)) (all_inserted P new xs it all.1)
    where
      step : (b : Bool) → AllByRecursion P (insert_sorted cmp new xs) → AllByRecursion P (cond b (x ∷ insert_sorted cmp new xs) (new ∷ x ∷ xs))
      step true more = (all.0, more)
      step false more = (it, all)

  rises_inserted : (new : X) (xs : List X) → IsAscending AtMost xs → IsAscending AtMost (insert_sorted cmp new xs)
  rises_inserted new [] up = (tt, tt)
  rises_inserted new (x ∷ xs) up = step (is_gt (cmp new x)) refl (rises_inserted new xs up.1)
    where
      step : (b : Bool) → is_gt (cmp new x) ≡ b → IsAscending AtMost (insert_sorted cmp new xs) → IsAscending AtMost (cond b (x ∷ insert_sorted cmp new xs) (new ∷ x ∷ xs))
      step true e more = (all_inserted (AtMost x) new xs (ap is_gt (total.antisymm x new) ∙ turned (cmp new x) e) up.0, more)
      step false e more = ((e, all_weaker (AtMost x) (AtMost new) (λ z. upto total new x z e) xs up.0), up)

  rises_sorted : (xs : List X) → IsAscending AtMost (sort_by cmp xs)
  rises_sorted [] = tt
  rises_sorted (x ∷ xs) = rises_inserted x (sort_by cmp xs) (rises_sorted xs)

  first_in : (new : X) (xs : List X) → AllByRecursion (AtMost new) xs → insert_sorted cmp new xs ≡ new ∷ xs
  first_in new [] all = refl
  first_in new (x ∷ xs) all = ap (λ b. cond b (x ∷ insert_sorted cmp new xs) (new ∷ x ∷ xs)) all.0

  filter_inserted : (p : X → Bool) (new : X) (xs : List X) → IsAscending AtMost xs → filter p (insert_sorted cmp new xs) ≡ cond (p new) (insert_sorted cmp new (filter p xs)) (filter p xs)
  filter_inserted p new [] up = refl
  filter_inserted p new (x ∷ xs) up = step (is_gt (cmp new x)) (p x) refl refl (filter_inserted p new xs up.1)
    where
      under : (b : Bool) (l m : List X) → x ∷ cond b l m ≡ cond b (x ∷ l) (x ∷ m)
      under true l m = refl
      under false l m = refl

      step : (g b : Bool) → is_gt (cmp new x) ≡ g → p x ≡ b → filter p (insert_sorted cmp new xs) ≡ cond (p new) (insert_sorted cmp new (filter p xs)) (filter p xs)
          → filter p (cond g (x ∷ insert_sorted cmp new xs) (new ∷ x ∷ xs)) ≡ cond (p new) (insert_sorted cmp new (cond b (x ∷ filter p xs) (filter p xs))) (cond b (x ∷ filter p xs) (filter p xs))
      step true true e f more =
          ap (λ c. cond c (x ∷ filter p (insert_sorted cmp new xs)) (filter p (insert_sorted cmp new xs))) f ∙ ap (λ l. x ∷ l) more ∙ under (p new) _ _
          ∙ ap (λ c. cond (p new) (cond c (x ∷ insert_sorted cmp new (filter p xs)) (new ∷ x ∷ filter p xs)) (x ∷ filter p xs)) (sym e)
      step true false e f more = ap (λ c. cond c (x ∷ filter p (insert_sorted cmp new xs)) (filter p (insert_sorted cmp new xs))) f ∙ more
      step false b e f more =
          let left = cond b (x ∷ filter p xs) (filter p xs) in
          ap (λ c. cond (p new) (new ∷ cond c (x ∷ filter p xs) (filter p xs)) (cond c (x ∷ filter p xs) (filter p xs))) f
          ∙ ap (λ l. cond (p new) l left) (sym (first_in new left (above b)))
        where
          later : AllByRecursion (AtMost new) (filter p xs)
          later = all-filter _ p xs (all_weaker (AtMost x) (AtMost new) (λ z. upto total new x z e) xs up.0)

          above : (c : Bool) → AllByRecursion (AtMost new) (cond c (x ∷ filter p xs) (filter p xs))
          above true = (e, later)
          above false = later

  pub filter_sorted : (p : X → Bool) (xs : List X) → filter p (sort_by cmp xs) ≡ sort_by cmp (filter p xs)
  filter_sorted p [] = refl
  filter_sorted p (x ∷ xs) = filter_inserted p x (sort_by cmp xs) (rises_sorted xs) ∙ step (p x) (filter_sorted p xs)
    where
      step : (b : Bool) → filter p (sort_by cmp xs) ≡ sort_by cmp (filter p xs) → cond b (insert_sorted cmp x (filter p (sort_by cmp xs))) (filter p (sort_by cmp xs)) ≡ sort_by cmp (cond b (x ∷ filter p xs) (filter p xs))
      step true more = ap (insert_sorted cmp x) more
      step false more = more

-- ---- the entries of a map

no_length : {X : Type 0} (xs : List X) → length xs ≡ 0 → xs ≡ []
no_length [] e = refl
no_length (x ∷ xs) e = absurd (omega (arith, e))

module _ {K X : Type 0} {R : K → K → Ordering} (o : IsTotalOrder R) where
  abbrev by_key : K × X → K × X → Ordering
  by_key a b = R a.0 b.0

  put_sorted : (k : K) (v : X) (es : List (K × X)) → AllByRecursion (λ e. eq_by_cmp R k e.0 ≡ false) es → put R k v es ≡ insert_sorted by_key (k, v) es
  put_sorted k v [] apart = refl
  put_sorted k v (e ∷ es) apart = step (R k e.0) apart.0 (put_sorted k v es apart.1)
    where
      step : (c : Ordering) → is_eq c ≡ false → put R k v es ≡ insert_sorted by_key (k, v) es
          → by_order c ((k, v) ∷ e ∷ es) ((e.0, v) ∷ es) (e ∷ put R k v es) ≡ cond (is_gt c) (e ∷ insert_sorted by_key (k, v) es) ((k, v) ∷ e ∷ es)
      step Less f more = refl
      step Equal f more = absurd (true≢false f)
      step Greater f more = ap (λ l. e ∷ l) more

  pub entries_sorted_by : (es : List (K × X)) → IsAscending (λ a b. eq_by_cmp R a.0 b.0 ≡ false) es → entries (from_entries {R = R} es) ≡ sort_by by_key es
  entries_sorted_by [] apart = no_length _ (sym (len-entries (empty {X = X} {R = R})) ∙ len-empty R X)
  entries_sorted_by (e ∷ es) apart =
      let by_keys : IsTotalOrder by_key = on_total (λ (x : K × X). x.0) o in
      entries-insert o (from_entries es) e.0 e.1 ∙ ap (put R e.0 e.1) (entries_sorted_by es apart.1)
      ∙ put_sorted e.0 e.1 (sort_by by_key es) (all-permutation _ es (sort_by by_key es) (IsPermutation-sym _ _ (IsPermutation-sort_by by_key by_keys es)) apart.0)

module _ {K X : Type 0} {R : K → K → Ordering} (o : IsTotalOrder R) (key : Row → K) (value : Row → X) where
  abbrev pub by : Row → Row → Ordering
  by a b = R (key a) (key b)

  -- where no two rows have one key
  pub rows_entries : (rows : List Row) → IsAscending (λ a b. eq_by_cmp R (key a) (key b) ≡ false) rows → entries (from_entries {R = R} (map (λ r. (key r, value r)) rows)) ≡ map (λ r. (key r, value r)) (sort_by by rows)
  rows_entries rows apart = entries_sorted_by o (map (λ r. (key r, value r)) rows) (ascending-map _ (λ r. (key r, value r)) rows apart) ∙ sort_by-map (λ (a b : K × X). R a.0 b.0) (λ r. (key r, value r)) rows

  pub rows_values : (rows : List Row) → IsAscending (λ a b. eq_by_cmp R (key a) (key b) ≡ false) rows → values (from_entries {R = R} (map (λ r. (key r, value r)) rows)) ≡ map value (sort_by by rows)
  rows_values rows apart = ap (map (λ (e : K × X). e.1)) (rows_entries rows apart) ∙ map-map (λ (e : K × X). e.1) (λ r. (key r, value r)) (sort_by by rows)

  sum_mapped : (f : X → ℕ) (rows : List Row) → sum_by f (map value rows) ≡ sum_by (λ r. f (value r)) rows
  sum_mapped f [] = refl
  sum_mapped f (r ∷ rs) = sum_by-cons f (value r) (map value rs) ∙ ap (λ n. f (value r) + n) (sum_mapped f rs) ∙ sym (sum_by-cons (λ x. f (value x)) r rs)

  -- a sum over the values is one over the rows, in whatever order
  pub rows_sum : (f : X → ℕ) (rows : List Row) → IsAscending (λ a b. eq_by_cmp R (key a) (key b) ≡ false) rows → sum_by f (values (from_entries {R = R} (map (λ r. (key r, value r)) rows))) ≡ sum_by (λ r. f (value r)) rows
  rows_sum f rows apart = ap (sum_by f) (rows_values rows apart) ∙ sum_mapped f (sort_by by rows)
      ∙ sym (sum_by-IsPermutation (λ r. f (value r)) (sort_by by rows) rows (IsPermutation-sort_by by (on_total key o) rows))
