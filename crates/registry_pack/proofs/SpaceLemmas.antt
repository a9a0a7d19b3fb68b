-- What is free after several extents were given, and in the gaps.
use Rattle.std.proofs.Common.{◌≡◌, ◌⊎◌, inl, inr, ◌↔◌, ◌+◌, ◌≤◌, ◌<◌, min, max, ℕ, Bool, true, false, ◌||◌, ◌&&◌, leb, ltb}
use Rattle.std.proofs.Common.{List, [], ◌∷◌, ◌++◌, length, get_or, take, drop, refl, sym, subst, ◌∙◌, ap, arith}
use Rattle.std.proofs.Common.{leb-true, ltb-true}
use borrow.Author.Tests.{le-leb, lt-ltb}
use Rattle.std.proofs.lemmas.List.{drop_more, take_more, take_all}
use Rattle.std.proofs.lemmas.List.Sorted.{list_any-IsPermutation}
use Rattle.std.proofs.lemmas.Bool.{cases_lt}
use Rattle.std.specs.List.{list_any}
use Rattle.std.specs.List.Sorted.{IsPermutation}
use Rattle.std.specs.Prelude.{Result, Ok, Err, OnOk, OnErr}
use Rattle.std.specs.declared.alloc.AllocError.{AllocError}
use Rattle.registry_pack.specs.declared.extent.Extent.{Extent}
use Rattle.registry_pack.specs.Extents.{Covers}
use Rattle.registry_pack.specs.Holes.{IsFree, AreHolesFrom, AreHoles, Gives}
use Rattle.registry_pack.specs.Joining.{end_behind}
use Rattle.registry_pack.proofs.FreeLemmas.{free_left, free_right, free_split, free_parts, free_from_drop, free_above, holes_drop}

-- ---- a list that was changed, or is as it was

pub holes_either : (r : Result (Unit {0}) AllocError) (old new given : List Extent) → OnOk r (new ≡ given) → OnErr r (new ≡ old) → AreHoles old → AreHoles given
    → AreHoles new
holes_either (Ok v) old new given x y h k = subst (λ (l : List Extent). AreHoles l) (sym x) k
holes_either (Err e) old new given x y h k = subst (λ (l : List Extent). AreHoles l) (sym y) h

pub Gives-on_ok : (r : Result (Unit {0}) AllocError) (old new given : List Extent) (e : Extent) → OnOk r (new ≡ given) → Gives old given e
    → OnOk r (Gives old new e)
Gives-on_ok (Ok v) old new given e x g = subst (λ (l : List Extent). Gives old l e) (sym x) g
Gives-on_ok (Err a) old new given e x g = tt

-- ---- one extent after another

-- the same bytes are free
abbrev pub AreAlike : List Extent → List Extent → Type 0
AreAlike xs ys = (p : ℕ) → IsFree xs p ↔ IsFree ys p

pub AreAlike-none : (xs : List Extent) → ((p : ℕ) → IsFree xs p → ⊥) → AreAlike xs []
AreAlike-none xs none p = (none p, λ x. absurd x)

pub AreAlike-more : (xs : List Extent) (i : ℕ) (e : Extent) → i < length xs → e ≡ get_or xs i e → (old new : List Extent)
    → AreAlike old (take i xs) → Gives old new e → AreAlike new (take (i + 1) xs)
AreAlike-more xs i e lt is old new alike gives =
    let grown = take_more xs i e lt ∙ ap (λ (x : Extent). take i xs ++ x ∷ []) (sym is) in
    subst (λ (l : List Extent). AreAlike new l) (sym grown) (λ p. (
      λ f. elim ((gives p).0 f) [
        | inl x ↦ free_left (take i xs) (e ∷ []) p ((alike p).0 x)
        | inr k ↦ free_right (take i xs) (e ∷ []) p (inl k)
      ],
      λ f. elim (free_split (take i xs) (e ∷ []) p f) [
        | inl x ↦ (gives p).1 (inl ((alike p).1 x))
        | inr y ↦ elim y [ inl k ↦ (gives p).1 (inr k) | inr z ↦ absurd z ]
      ],
    ))

pub AreAlike-all : (xs : List Extent) (i : ℕ) (new : List Extent) → length xs ≤ i → AreAlike new (take i xs) → AreAlike new xs
AreAlike-all xs i new le alike = subst (λ (l : List Extent). AreAlike new l) (take_all i xs le) alike

-- ---- the order of the extents says nothing

covers_test : ℕ → Extent → Bool
covers_test p e = leb e.at p && ltb p (e.at + e.size)

both_true : (a b : Bool) → a ≡ true → b ≡ true → (a && b) ≡ true
both_true true b h k = k
both_true false b h k = h

first_true : (a b : Bool) → (a && b) ≡ true → a ≡ true
first_true true b h = refl
first_true false b h = h

second_true : (a b : Bool) → (a && b) ≡ true → b ≡ true
second_true true b h = h
second_true false b h = cc

left_true : (a b : Bool) → a ≡ true → (a || b) ≡ true
left_true true b h = refl
left_true false b h = cc

right_true : (a b : Bool) → b ≡ true → (a || b) ≡ true
right_true true b h = refl
right_true false b h = h

either_true : (a b : Bool) → (a || b) ≡ true → (a ≡ true) ⊎ (b ≡ true)
either_true true b h = inl refl
either_true false b h = inr h

any_free : (xs : List Extent) (p : ℕ) → IsFree xs p → list_any (covers_test p) xs ≡ true
unfolding covers_test
any_free [] p f = absurd f
any_free (x ∷ xs) p (inl k) = left_true _ _ (both_true _ _ (le-leb x.at p k.0) (lt-ltb p (x.at + x.size) k.1))
any_free (x ∷ xs) p (inr f) = right_true _ _ (any_free xs p f)

free_any : (xs : List Extent) (p : ℕ) → list_any (covers_test p) xs ≡ true → IsFree xs p
unfolding covers_test
free_any [] p h = absurd (cc)
free_any (x ∷ xs) p h =
    elim (either_true (leb x.at p && ltb p (x.at + x.size)) (list_any (covers_test p) xs) h) [
      | inl k ↦ inl (leb-true x.at p (first_true _ _ k), ltb-true p (x.at + x.size) (second_true _ _ k))
      | inr f ↦ inr (free_any xs p f)
    ]

pub AreAlike-permutation : (xs ys : List Extent) → IsPermutation xs ys → (new : List Extent) → AreAlike new ys → AreAlike new xs
AreAlike-permutation xs ys h new alike p =
    let same = list_any-IsPermutation (covers_test p) xs ys h in
    (λ f. free_any xs p (same ∙ any_free ys p ((alike p).0 f)), λ f. (alike p).1 (free_any ys p (sym same ∙ any_free xs p f)))

-- ---- gaps

-- the gaps before `at` are found, and the holes before the index end there or before
pub record Gaps (holes : List Extent) (from to : ℕ) (at : ℕ) (i : ℕ) (found : List Extent) : Type 0 where
  pub past : from ≤ at
  pub passed : (p : ℕ) → IsFree (take i holes) p → p < at
  pub gaps : (p : ℕ) → IsFree found p ↔ ((from ≤ p) × (p < at) × (p < to) × ¬ IsFree holes p)

pub Gaps-start : (holes : List Extent) (from to : ℕ) (found : List Extent) → ((p : ℕ) → IsFree found p → ⊥) → Gaps holes from to from 0 found
Gaps-start holes from to found none = record {
  past = omega arith;
  passed = λ p f. absurd f;
  gaps = λ p. (λ f. absurd (none p f), λ x. absurd (omega (arith, x.0, x.1)));
}

pub Gaps-more : (holes : List Extent) (from to at i : ℕ) (found : List Extent) → AreHoles holes → Gaps holes from to at i found
    → (hole : Extent) → i < length holes → hole ≡ get_or holes i hole → (upto next : ℕ) → upto ≡ min to hole.at → next ≡ max at (hole.at + hole.size)
    → (gap : Extent) → ((p : ℕ) → Covers gap p ↔ ((at ≤ p) × (p < upto))) → (new : List Extent) → Gives found new gap → Gaps holes from to next (i + 1) new
Gaps-more holes from to at i found h g hole lt is upto next upto_is next_is gap covers new gives =
    let rest = drop (i + 1) holes in
    let grown = take_more holes i hole lt ∙ ap (λ (x : Extent). take i holes ++ x ∷ []) (sym is) in
    let later = drop_more holes i hole lt ∙ ap (λ (x : Extent). x ∷ rest) (sym is) in
    let order = subst (λ (l : List Extent). AreHolesFrom (end_behind 0 (take i holes)) l) later (holes_drop i holes h) in
    let there : (p : ℕ) → Covers hole p → IsFree holes p = λ p k. free_from_drop i holes p (subst (λ (l : List Extent). IsFree l p) (sym later) (inl k)) in
    let not_before : (p : ℕ) → at ≤ p → p < hole.at → ¬ IsFree holes p =
    λ p le below f. elim (free_parts i holes p f) [
      | inl x ↦ absurd (omega (arith, g.passed p x))
      | inr x ↦ elim (subst (λ (l : List Extent). IsFree l p) later x) [
        | inl k ↦ absurd (omega (arith, k.0))
        | inr y ↦ absurd (omega (arith, free_above (hole.at + hole.size + 1) rest order.1 p y))
      ]
    ] in
    record {
      past = omega (arith, g.past);
      passed = λ p f. elim (free_split (take i holes) (hole ∷ []) p (subst (λ (l : List Extent). IsFree l p) grown f)) [
        | inl x ↦ omega (arith, g.passed p x)
        | inr x ↦ elim x [ inl k ↦ omega (arith, k.1) | inr y ↦ absurd y ]
      ];
      gaps = λ p. (
        λ f. elim ((gives p).0 f) [
          | inl x ↦ (let y = (g.gaps p).0 x in (y.0, omega (arith, y.1), y.2, y.3))
          | inr k ↦ (let y = (covers p).0 k in (omega (arith, y.0, g.past), omega (arith, y.1), omega (arith, y.1), not_before p y.0 (omega (arith, y.1))))
        ],
        λ x. elim (cases_lt p at) [
          | inl below ↦ (gives p).1 (inl ((g.gaps p).1 (x.0, below, x.2, x.3)))
          | inr above ↦ elim (cases_lt p hole.at) [
            | inl y ↦ (gives p).1 (inr ((covers p).1 (above, omega (arith, x.2))))
            | inr y ↦ absurd (x.3 (there p (y, omega (arith, x.1))))
          ]
        ],
      );
    }

pub Gaps-end : (holes : List Extent) (from to at i : ℕ) (found : List Extent) → Gaps holes from to at i found → length holes ≤ i → (gap : Extent)
    → ((p : ℕ) → Covers gap p ↔ ((at ≤ p) × (p < to))) → (new : List Extent) → Gives found new gap
    → (p : ℕ) → IsFree new p ↔ ((from ≤ p) × (p < to) × ¬ IsFree holes p)
Gaps-end holes from to at i found g le gap covers new gives p =
    let passed : IsFree holes p → p < at = λ f. g.passed p (subst (λ (l : List Extent). IsFree l p) (sym (take_all i holes le)) f) in (
      λ f. elim ((gives p).0 f) [
        | inl x ↦ (let y = (g.gaps p).0 x in (y.0, y.2, y.3))
        | inr k ↦ (let y = (covers p).0 k in (omega (arith, y.0, g.past), y.1, λ z. absurd (omega (arith, passed z, y.0))))
      ],
      λ x. elim (cases_lt p at) [
        | inl below ↦ (gives p).1 (inl ((g.gaps p).1 (x.0, below, x.1, x.2)))
        | inr above ↦ (gives p).1 (inr ((covers p).1 (above, x.1)))
      ],
    )

-- ---- two lists together

pub AreAlike-together : (xs ys all new : List Extent) → all ≡ xs ++ ys → AreAlike new all → (p : ℕ) → IsFree new p ↔ (IsFree ys p ⊎ IsFree xs p)
AreAlike-together xs ys all new e alike p = (
  λ f. elim (free_split xs ys p (subst (λ (l : List Extent). IsFree l p) e ((alike p).0 f))) [ inl x ↦ inr x | inr y ↦ inl y ],
  λ z. elim z [
    | inl y ↦ (alike p).1 (subst (λ (l : List Extent). IsFree l p) (sym e) (free_right xs ys p y))
    | inr x ↦ (alike p).1 (subst (λ (l : List Extent). IsFree l p) (sym e) (free_left xs ys p x))
  ],
)
