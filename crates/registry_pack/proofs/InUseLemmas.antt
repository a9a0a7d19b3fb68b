-- The blocks of extents that are in use, and what they leave.
use Rattle.std.proofs.Common.{◌≡◌, ◌⊎◌, inl, inr, ◌↔◌, ◌+◌, ◌/◌, ◌%◌, ◌≤◌, ◌<◌, ℕ, List, [], ◌∷◌, ◌++◌, length, get_or, take, ap, ◌∙◌, sym, subst, arith}
use Rattle.std.proofs.lemmas.List.{take_more, take_all}
use Rattle.registry_pack.specs.declared.extent.Extent.{Extent}
use Rattle.registry_pack.specs.Extents.{Covers}
use Rattle.registry_pack.specs.Holes.{IsFree}
use Rattle.registry_pack.specs.Blocks.{IsInBlocks, IsInUse, AreBefore, AreWhole}
use Rattle.registry_pack.proofs.FreeLemmas.{free_left, free_right, free_split}
use Rattle.registry_pack.proofs.BlockLemmas.{in_blocks}

in_use_left : (xs ys : List Extent) (p : ℕ) → IsInUse xs p → IsInUse (xs ++ ys) p
in_use_left [] ys p h = absurd h
in_use_left (x ∷ xs) ys p (inl h) = inl h
in_use_left (x ∷ xs) ys p (inr h) = inr (in_use_left xs ys p h)

in_use_right : (xs ys : List Extent) (p : ℕ) → IsInUse ys p → IsInUse (xs ++ ys) p
in_use_right [] ys p h = h
in_use_right (x ∷ xs) ys p h = inr (in_use_right xs ys p h)

in_use_split : (xs ys : List Extent) (p : ℕ) → IsInUse (xs ++ ys) p → IsInUse xs p ⊎ IsInUse ys p
in_use_split [] ys p h = inr h
in_use_split (x ∷ xs) ys p (inl h) = inl (inl h)
in_use_split (x ∷ xs) ys p (inr h) = elim (in_use_split xs ys p h) [ inl a ↦ inl (inr a) | inr b ↦ inr b ]

-- what is found are the blocks before the end that are in use
abbrev pub AreInUse : ℕ → List Extent → List Extent → Type 0
AreInUse end found used = (p : ℕ) → IsFree found p ↔ (IsInUse used p × (p < end))

pub AreInUse-more : (end : ℕ) (used : List Extent) (i : ℕ) (e given : Extent) → i < length used → e ≡ get_or used i e
    → ((p : ℕ) → Covers given p ↔ (IsInBlocks e p × (p < end))) → (old new : List Extent) → new ≡ old ++ given ∷ []
    → AreInUse end old (take i used) → AreInUse end new (take (i + 1) used)
AreInUse-more end used i e given lt is covers old new grown found =
    let more = take_more used i e lt ∙ ap (λ (x : Extent). take i used ++ x ∷ []) (sym is) in
    subst (λ (l : List Extent). AreInUse end new l) (sym more)
    (subst (λ (l : List Extent). AreInUse end l (take i used ++ e ∷ [])) (sym grown) (λ p. (
      λ f. elim (free_split old (given ∷ []) p f) [
        | inl x ↦ (let (there, low) = (found p).0 x in (in_use_left (take i used) (e ∷ []) p there, low))
        | inr y ↦ elim y [
          | inl k ↦ (let (there, low) = (covers p).0 k in (in_use_right (take i used) (e ∷ []) p (inl there), low))
          | inr z ↦ absurd z
        ]
      ],
      λ (h, low). elim (in_use_split (take i used) (e ∷ []) p h) [
        | inl x ↦ free_left old (given ∷ []) p ((found p).1 (x, low))
        | inr y ↦ elim y [ inl k ↦ free_right old (given ∷ []) p (inl ((covers p).1 (k, low))) | inr z ↦ absurd z ]
      ],
    )))

pub AreInUse-all : (end : ℕ) (used : List Extent) (i : ℕ) (found : List Extent) → length used ≤ i → AreInUse end found (take i used) → AreInUse end found used
AreInUse-all end used i found le alike = subst (λ (l : List Extent). AreInUse end found l) (take_all i used le) alike

-- ---- what is not in use

in_use_beside : (used : List Extent) (p q : ℕ) → p / 4096 ≡ q / 4096 → IsInUse used p → IsInUse used q
in_use_beside [] p q same h = h
in_use_beside (e ∷ used) p q same (inl k) = inl (in_blocks e p q same k)
in_use_beside (e ∷ used) p q same (inr h) = inr (in_use_beside used p q same h)

module _ (end : ℕ) (last : end % 4096 ≡ 0) (used in_use gaps : List Extent) (found : AreInUse end in_use used)
    (are : (p : ℕ) → IsFree gaps p ↔ ((8192 ≤ p) × (p < end) × ¬ IsFree in_use p)) where
  pub gaps_before : AreBefore end gaps
  gaps_before p f = let x = (are p).0 f in (x.0, x.1)

  pub gaps_whole : AreWhole gaps
  gaps_whole p q same f n =
      let x = (are p).0 f in
      n ((are q).1 (
        omega (arith, x.0),
        omega (arith, x.1),
        λ y.
            let (there, low) = (found q).0 y in
            x.2 ((found p).1 (in_use_beside used q p (sym same) there, x.1)),
      ))

  pub gaps_are : (p : ℕ) → IsFree gaps p ↔ ((8192 ≤ p) × (p < end) × ¬ IsInUse used p)
  gaps_are p = (
    λ f. (let x = (are p).0 f in (x.0, x.1, λ h. x.2 ((found p).1 (h, x.1)))),
    λ (low, high, n). (are p).1 (low, high, λ f. n ((found p).0 f).0),
  )

-- ---- what is neither in use nor free

-- the blocks before the end that are in use, and what is free besides
abbrev pub AreTaken : ℕ → List Extent → List Extent → List Extent → Type 0
AreTaken end found used free = (p : ℕ) → IsFree found p ↔ ((IsInUse used p × (p < end)) ⊎ IsFree free p)

pub AreTaken-both : (end : ℕ) (in_use taken used free : List Extent) → AreInUse end in_use used
    → ((p : ℕ) → IsFree taken p ↔ (IsFree in_use p ⊎ IsFree free p)) → AreTaken end taken used free
AreTaken-both end in_use taken used free found both p = (
  λ f. elim ((both p).0 f) [ inl x ↦ inl ((found p).0 x) | inr y ↦ inr y ],
  λ w. elim w [ inl x ↦ (both p).1 (inl ((found p).1 x)) | inr y ↦ (both p).1 (inr y) ],
)

module _ (end : ℕ) (last : end % 4096 ≡ 0) (used free taken gaps : List Extent) (whole : AreWhole free) (found : AreTaken end taken used free)
    (are : (p : ℕ) → IsFree gaps p ↔ ((8192 ≤ p) × (p < end) × ¬ IsFree taken p)) where
  pub rest_before : AreBefore end gaps
  rest_before p f = let x = (are p).0 f in (x.0, x.1)

  pub rest_whole : AreWhole gaps
  rest_whole p q same f n =
      let x = (are p).0 f in
      n ((are q).1 (
        omega (arith, x.0),
        omega (arith, x.1),
        λ y. elim ((found q).0 y) [
          | inl k ↦ x.2 ((found p).1 (inl (in_use_beside used q p (sym same) k.0, x.1)))
          | inr k ↦ whole q p (sym same) k (λ z. x.2 ((found p).1 (inr z)))
        ],
      ))

  pub rest_are : (p : ℕ) → IsFree gaps p ↔ ((8192 ≤ p) × (p < end) × (IsInUse used p → ⊥) × (IsFree free p ⊎ (end ≤ p) → ⊥))
  rest_are p = (
    λ f.
        let x = (are p).0 f in
        (x.0, x.1, λ h. x.2 ((found p).1 (inl (h, x.1))), λ w. elim w [ inl k ↦ x.2 ((found p).1 (inr k)) | inr behind ↦ omega (arith, x.1, behind) ]),
    λ (low, high, n, m). (are p).1 (low, high, λ y. elim ((found p).0 y) [ inl k ↦ n k.0 | inr k ↦ m (inl k) ]),
  )
