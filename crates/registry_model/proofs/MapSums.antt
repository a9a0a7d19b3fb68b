-- A map after a change: the sum over its values, and how many entries it has.
use Rattle.std.proofs.Common.{◌≡◌, ◌∙◌, ℕ, ◌+◌, List, [], ◌∷◌, map, length, true, false, Bool, cond, None, Some, refl, sym, ap, arith}
use Rattle.std.specs.Prelude.{Option, is_some, sum_by}
use Rattle.std.specs.declared.cmp.Ordering.{Ordering}
use Rattle.std.specs.declared.cmp.Ordering.TheVariants.{Less, Equal, Greater}
use Rattle.std.specs.Ordering.{eq_by_cmp, is_eq}
use Rattle.std.specs.Cmp.{IsTotalOrder, Equal-is}
use Rattle.std.specs.FinMap.{FinMap, find, values, get, insert, remove, empty, len, get-entries, len-entries, len-empty, entries, entries-insert, get-insert, get-remove, len-insert, same_map, IsAntisymmetric}
use Rattle.std.specs.FinMap.Entries.{put, by_order}
use Rattle.std.proofs.lemmas.Cmp.{tied_itself}
use Rattle.std.proofs.lemmas.List.Sums.{sum_by-cons}

module _ {K X : Type 0} (R : K → K → Ordering) (f : X → ℕ) where
  abbrev total : List (K × X) → ℕ
  total es = sum_by f (map (λ e. e.1) es)

  sum_put : (k : K) (v : X) (es : List (K × X)) → find R k es ≡ None → total (put R k v es) ≡ total es + f v
  sum_put k v [] none = refl
  sum_put k v (e ∷ es) none =
      elim (R k e.0) as (λ o. R k e.0 ≡ o → total (by_order o ((k, v) ∷ e ∷ es) ((e.0, v) ∷ es) (e ∷ put R k v es)) ≡ total (e ∷ es) + f v) [
        | Less ↦ λ p. omega (arith, sum_by-cons f v (map (λ e. e.1) (e ∷ es)))
        | Equal ↦ λ p. let h : ◌≡◌ {A = Option X} (Some e.1) None = ap (λ o. cond (is_eq o) (Some e.1) (find R k es)) (sym p) ∙ none in absurd (cc)
        | Greater ↦ λ p.
            let h = sum_put k v es (ap (λ o. cond (is_eq o) (Some e.1) (find R k es)) (sym p) ∙ none) in
            omega (arith, h, sum_by-cons f e.1 (map (λ e. e.1) (put R k v es)), sum_by-cons f e.1 (map (λ e. e.1) es))
      ] refl

  sum_none : (es : List (K × X)) → length es ≡ 0 → total es ≡ 0
  sum_none [] none = refl
  sum_none (e ∷ es) none = absurd (omega arith)

  -- an empty map has no values
  pub sum_empty : sum_by f (values (empty {X = X} {R = R})) ≡ 0
  sum_empty = sum_none (entries (empty {X = X} {R = R})) (sym (len-entries (empty {X = X} {R = R})) ∙ len-empty R X)

module _ {K X : Type 0} {R : K → K → Ordering} (o : IsTotalOrder R) (f : X → ℕ) where
  -- a key that is new adds its value
  pub sum_new : (m : FinMap R X) (k : K) (v : X) → get m k ≡ None → sum_by f (values (insert m k v)) ≡ sum_by f (values m) + f v
  sum_new m k v none = ap (total R f) (entries-insert o m k v) ∙ sum_put R f k v (entries m) (sym (get-entries m k) ∙ none)

  pub len_new : (m : FinMap R X) (k : K) (v : X) → get m k ≡ None → len (insert m k v) ≡ len m + 1
  len_new m k v none = len-insert o m k v ∙ ap (λ x. cond (is_some x) (len m) (len m + 1)) none

  pub len_over : (m : FinMap R X) (k : K) (v : X) → is_some (get m k) ≡ true → len (insert m k v) ≡ len m
  len_over m k v there = len-insert o m k v ∙ ap (λ b. cond b (len m) (len m + 1)) there

  module _ (same : IsAntisymmetric R) (m : FinMap R X) (k : K) where
    twice : (v : X) (b : Bool) (x : Option X) → cond b (Some v) (cond b None x) ≡ cond b (Some v) x
    twice v true x = refl
    twice v false x = refl

    -- to insert a key is to insert it where it was removed
    anew : (v : X) → insert (remove m k) k v ≡ insert m k v
    anew v = same_map o same _ _ (λ q.
        get-insert o (remove m k) k v q ∙ ap (cond (eq_by_cmp R q k) (Some v)) (get-remove o m k q) ∙ twice v (eq_by_cmp R q k) (get m q) ∙ sym (get-insert o m k v q))

    -- to insert what is there changes nothing
    stays : (u : X) → get m k ≡ Some u → insert m k u ≡ m
    stays u there = same_map o same _ _ (λ q. get-insert o m k u q ∙ step q (eq_by_cmp R q k) refl)
      where
        step : (q : K) (b : Bool) → eq_by_cmp R q k ≡ b → cond b (Some u) (get m q) ≡ get m q
        step q true e = sym (ap (get m) (same q k ((Equal-is _).0 e)) ∙ there)
        step q false e = refl

    removed : get (remove m k) k ≡ None
    removed = get-remove o m k k ∙ ap (λ r. cond (is_eq r) None (get m k)) (tied_itself o k)

    sum_anew : (v : X) → sum_by f (values (insert m k v)) ≡ sum_by f (values (remove m k)) + f v
    sum_anew v = ap (λ n. sum_by f (values n)) (sym (anew v)) ∙ sum_new (remove m k) k v removed

    -- a key that is removed takes its value away
    pub sum_gone : (u : X) → get m k ≡ Some u → sum_by f (values (remove m k)) + f u ≡ sum_by f (values m)
    sum_gone u there = sym (sum_anew u) ∙ ap (λ n. sum_by f (values n)) (stays u there)

    pub len_gone : (u : X) → get m k ≡ Some u → len (remove m k) + 1 ≡ len m
    len_gone u there = sym (len_new (remove m k) k u removed) ∙ ap len (anew u ∙ stays u there)

    -- a key that is there takes its old value away and adds the new one
    pub sum_over : (u v : X) → get m k ≡ Some u → sum_by f (values (insert m k v)) + f u ≡ sum_by f (values m) + f v
    sum_over u v there = omega (arith, sum_anew v, sum_gone u there)
