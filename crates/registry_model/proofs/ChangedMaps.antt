-- Maps after a change: what they have at a key, and sums over their values.
use Rattle.std.proofs.Common.{◌≡◌, ◌≢◌, ◌∙◌, ◌⊎◌, inl, inr, ℕ, ◌+◌, ◌≤◌, List, [], ◌∷◌, map, length, Bool, true, false, cond, Option, Some, None, refl, sym, ap, subst, arith}
use Rattle.std.specs.Prelude.{is_some, bytes_eq, sum_by}
use Rattle.std.specs.Option.{unwrap_or}
use Rattle.std.specs.declared.cmp.Ordering.{Ordering}
use Rattle.std.specs.declared.cmp.Ordering.TheVariants.{Less, Equal, Greater}
use Rattle.std.specs.Ordering.{is_eq, eq_by_cmp}
use Rattle.std.specs.Cmp.{IsTotalOrder, Equal-is, eq_by_cmp_equiv}
use Rattle.std.specs.FinMap.{FinMap, get, insert, remove, empty, entries, values, get-insert, get-remove, entries-insert, len-empty, len-entries, get-entries, same_map, IsAntisymmetric}
use Rattle.std.specs.FinMap.Entries.{put, find, by_order}
use Rattle.std.proofs.lemmas.List.Sums.{sum_by-cons}
use Rattle.std.proofs.lemmas.Slice.Eq.{bytes_eq-Decides}
use Rattle.oci_types.specs.Text.{Text}

pub bytes_eq-itself : (t : Text) → bytes_eq t t ≡ true
bytes_eq-itself t = (bytes_eq-Decides t t).1 refl

pub same_Some : {A : Type 0} (x y : A) → Some x ≡ Some y → x ≡ y
same_Some x y e = ap (λ o. unwrap_or o x) e

pub not_Some : {A : Type 0} (x : A) → None ≢ Some x
not_Some x e = let bad : false ≡ true = ap is_some e in absurd (cc)

-- ---- look-ups

module _ {K X : Type 0} {R : K → K → Ordering} (o : IsTotalOrder R) (exact : IsAntisymmetric R) (m : FinMap R X) (k : K) where
  same_key : (q : K) → eq_by_cmp R q k ≡ true → q ≡ k
  same_key q e = exact q k ((Equal-is _).0 e)

  -- the new value at its key, or what was there
  pub got_insert : (v : X) (q : K) (x : X) → get (insert m k v) q ≡ Some x → ((q ≡ k) × (v ≡ x)) ⊎ (get m q ≡ Some x)
  got_insert v q x e = by (eq_by_cmp R q k) refl (sym (get-insert o m k v q) ∙ e)
    where
      by : (b : Bool) → eq_by_cmp R q k ≡ b → cond b (Some v) (get m q) ≡ Some x → ((q ≡ k) × (v ≡ x)) ⊎ (get m q ≡ Some x)
      by true t h = inl (same_key q t, same_Some v x h)
      by false t h = inr h

  pub stays_there : (v : X) (q : K) → is_some (get m q) ≡ true → is_some (get (insert m k v) q) ≡ true
  stays_there v q e = ap is_some (get-insert o m k v q) ∙ by (eq_by_cmp R q k)
    where
      by : (b : Bool) → is_some (cond b (Some v) (get m q)) ≡ true
      by true = refl
      by false = e

  pub is_put : (v : X) → is_some (get (insert m k v) k) ≡ true
  is_put v = ap is_some (get-insert o m k v k) ∙ ap (λ b. is_some (cond b (Some v) (get m k))) ((eq_by_cmp_equiv o).refl k)

  pub got_remove : (q : K) (x : X) → get (remove m k) q ≡ Some x → (get m q ≡ Some x) × (q ≢ k)
  got_remove q x e = by (eq_by_cmp R q k) refl (sym (get-remove o m k q) ∙ e)
    where
      by : (b : Bool) → eq_by_cmp R q k ≡ b → cond b None (get m q) ≡ Some x → (get m q ≡ Some x) × (q ≢ k)
      by true t h = absurd (not_Some x h)
      by false t h = (h, λ s. let bad : false ≡ true = sym t ∙ ap (λ z. eq_by_cmp R z k) s ∙ (eq_by_cmp_equiv o).refl k in absurd (cc))

  pub left_there : (q : K) → is_some (get m q) ≡ true → q ≢ k → is_some (get (remove m k) q) ≡ true
  left_there q e n = ap is_some (get-remove o m k q) ∙ by (eq_by_cmp R q k) refl
    where
      by : (b : Bool) → eq_by_cmp R q k ≡ b → is_some (cond b None (get m q)) ≡ true
      by true t = absurd (n (same_key q t))
      by false t = e

  -- ---- a map without a key, and with it again

  without_absent : get m k ≡ None → remove m k ≡ m
  without_absent none = same_map o exact _ _ (λ q. get-remove o m k q ∙ by q (eq_by_cmp R q k) refl)
    where
      by : (q : K) (b : Bool) → eq_by_cmp R q k ≡ b → cond b None (get m q) ≡ get m q
      by q true t = sym (ap (get m) (same_key q t) ∙ none)
      by q false t = refl

  put_back : (x : X) → get m k ≡ Some x → insert (remove m k) k x ≡ m
  put_back x there = same_map o exact _ _ (λ q.
      get-insert o (remove m k) k x q ∙ ap (cond (eq_by_cmp R q k) (Some x)) (get-remove o m k q) ∙ by q (eq_by_cmp R q k) refl)
    where
      by : (q : K) (b : Bool) → eq_by_cmp R q k ≡ b → cond b (Some x) (cond b None (get m q)) ≡ get m q
      by q true t = sym (ap (get m) (same_key q t) ∙ there)
      by q false t = refl

  absent_after : get (remove m k) k ≡ None
  absent_after = get-remove o m k k ∙ ap (λ b. cond b None (get m k)) ((eq_by_cmp_equiv o).refl k)

-- ---- sums

module _ {K X : Type 0} (f : X → ℕ) where
  abbrev total : List (K × X) → ℕ
  total es = sum_by f (map (λ e. e.1) es)

  more : (e : K × X) (es : List (K × X)) → total (e ∷ es) ≡ f e.1 + total es
  more e es = sum_by-cons f e.1 (map (λ d. d.1) es)

  none_in : (es : List (K × X)) → length es ≡ 0 → total es ≡ 0
  none_in [] e = refl
  none_in (d ∷ es) e = absurd (omega arith)

  pub sum_of_none : (R : K → K → Ordering) → sum_by f (values (empty {X = X} {R = R})) ≡ 0
  sum_of_none R = none_in (entries (empty {X = X} {R = R})) (sym (len-entries (empty {X = X} {R = R})) ∙ len-empty R X)

  module _ (R : K → K → Ordering) where
    put_at_most : (k : K) (v : X) (es : List (K × X)) → total (put R k v es) ≤ total es + f v
    put_at_most k v [] = omega (arith, more (k, v) [])
    put_at_most k v (e ∷ es) =
        elim (R k e.0) as (λ r. total (by_order r ((k, v) ∷ e ∷ es) ((e.0, v) ∷ es) (e ∷ put R k v es)) ≤ total (e ∷ es) + f v) [
          | Less ↦ omega (arith, more (k, v) (e ∷ es))
          | Equal ↦ omega (arith, more (e.0, v) es, more e es)
          | Greater ↦ omega (arith, put_at_most k v es, more e (put R k v es), more e es)
        ]

    put_at_least : (k : K) (v : X) (es : List (K × X)) → find R k es ≡ None → total es ≤ total (put R k v es)
    put_at_least k v [] h = omega (arith, more (k, v) [])
    put_at_least k v (e ∷ es) h =
        elim (R k e.0) as (λ r. cond (is_eq r) (Some e.1) (find R k es) ≡ None → total (e ∷ es) ≤ total (by_order r ((k, v) ∷ e ∷ es) ((e.0, v) ∷ es) (e ∷ put R k v es))) [
          | Less ↦ λ n. omega (arith, more (k, v) (e ∷ es))
          | Equal ↦ λ n. absurd (not_Some e.1 (sym n))
          | Greater ↦ λ n. omega (arith, put_at_least k v es n, more e (put R k v es), more e es)
        ] h

module _ {K X : Type 0} {R : K → K → Ordering} (o : IsTotalOrder R) (f : X → ℕ) (m : FinMap R X) (k : K) where
  pub sum_after_insert : (v : X) → sum_by f (values (insert m k v)) ≤ sum_by f (values m) + f v
  sum_after_insert v = subst (λ es. total f es ≤ total f (entries m) + f v) (sym (entries-insert o m k v)) (put_at_most f R k v (entries m))

  pub sum_after_remove : IsAntisymmetric R → sum_by f (values (remove m k)) ≤ sum_by f (values m)
  sum_after_remove exact = by (get m k) refl
    where
      by : (x : Option X) → get m k ≡ x → total f (entries (remove m k)) ≤ total f (entries m)
      by None e = subst (λ n. total f (entries (remove m k)) ≤ total f (entries n)) (without_absent o exact m k e) (omega arith)
      by (Some x) e = subst (λ n. total f (entries (remove m k)) ≤ total f (entries n)) (put_back o exact m k x e)
          (subst (λ es. total f (entries (remove m k)) ≤ total f es) (sym (entries-insert o (remove m k) k x))
          (put_at_least f R k x (entries (remove m k)) (sym (get-entries (remove m k) k) ∙ absent_after o exact m k)))
