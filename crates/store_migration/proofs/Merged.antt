-- Maps of the entries of two lists together: the first list says what a key has, and where it does not, the second.
use Rattle.std.proofs.Common.{◌≡◌, List, [], ◌∷◌, ◌++◌, Bool, true, false, cond, Option, None, Some, refl, sym, ap, ◌∙◌}
use Rattle.std.specs.Ordering.{eq_by_cmp}
use Rattle.std.specs.Cmp.{IsTotalOrder}
use Rattle.std.specs.declared.cmp.Ordering.{Ordering}
use Rattle.std.specs.FinMap as finite
use Rattle.std.specs.FinMap.{get, insert, remove, from_entries, get-insert, get-remove, get-from_entries, same_map}
use Rattle.std.proofs.lemmas.Map.Lookups.{CmpEqualImpliesEq}
use Rattle.store_schema.proofs.Ids.{is_eq_equal}

-- the first, or else the second
abbrev pub or_else : {X : Type 0} → Option X → Option X → Option X
or_else None b = b
or_else (Some x) b = Some x

module _ {K X : Type 0} {R : K → K → Ordering} (o : IsTotalOrder R) (exact : CmpEqualImpliesEq R) where
  find_both : (q : K) (xs bs : List (K × X)) → finite.find R q (xs ++ bs) ≡ or_else (finite.find R q xs) (finite.find R q bs)
  find_both q [] bs = refl
  find_both q (a ∷ xs) bs = step (eq_by_cmp R q a.0) (find_both q xs bs)
    where
      step : (b : Bool) → finite.find R q (xs ++ bs) ≡ or_else (finite.find R q xs) (finite.find R q bs)
          → cond b (Some a.1) (finite.find R q (xs ++ bs)) ≡ or_else (cond b (Some a.1) (finite.find R q xs)) (finite.find R q bs)
      step true e = refl
      step false e = e

  pub get_both : (xs bs : List (K × X)) (q : K) → get (from_entries {R = R} (xs ++ bs)) q ≡ or_else (get (from_entries {R = R} xs) q) (get (from_entries {R = R} bs) q)
  get_both xs bs q = get-from_entries o (xs ++ bs) q ∙ find_both q xs bs ∙ (λ i. or_else (sym (get-from_entries o xs q) i) (sym (get-from_entries o bs q) i))

  -- where each list makes the same map, so do both together
  pub both_stay : (xs bs cs ds : List (K × X)) → from_entries {R = R} cs ≡ from_entries {R = R} xs → from_entries {R = R} ds ≡ from_entries {R = R} bs → from_entries {R = R} (cs ++ ds) ≡ from_entries {R = R} (xs ++ bs)
  both_stay xs bs cs ds e f = same_map o exact _ _ (λ q. get_both cs ds q ∙ (λ i. or_else (get (e i) q) (get (f i) q)) ∙ sym (get_both xs bs q))

  -- an entry that goes from the first to the second
  pub both_moved : (k : K) (v : X) (xs bs cs ds : List (K × X)) → get (from_entries {R = R} xs) k ≡ Some v → from_entries {R = R} cs ≡ remove (from_entries {R = R} xs) k → from_entries {R = R} ds ≡ insert (from_entries {R = R} bs) k v
      → from_entries {R = R} (cs ++ ds) ≡ from_entries {R = R} (xs ++ bs)
  both_moved k v xs bs cs ds there e f = same_map o exact _ _ (λ q.
      get_both cs ds q ∙ (λ i. or_else ((ap (λ m. get m q) e ∙ get-remove o (from_entries {R = R} xs) k q) i) ((ap (λ m. get m q) f ∙ get-insert o (from_entries {R = R} bs) k v q) i))
      ∙ step q (eq_by_cmp R q k) refl ∙ sym (get_both xs bs q))
    where
      step : (q : K) (b : Bool) → eq_by_cmp R q k ≡ b → or_else (cond b None (get (from_entries {R = R} xs) q)) (cond b (Some v) (get (from_entries {R = R} bs) q)) ≡ or_else (get (from_entries {R = R} xs) q) (get (from_entries {R = R} bs) q)
      step q true e = ap (λ (x : Option X). or_else x (get (from_entries {R = R} bs) q)) (sym (ap (get (from_entries {R = R} xs)) (exact q k (is_eq_equal _ e)) ∙ there))
      step q false e = refl
