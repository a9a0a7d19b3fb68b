-- The last hole, and what is left where it is taken out.
use Rattle.std.proofs.Common.{◌≡◌, inl, inr, ◌↔◌, ◌+◌, ◌-◌, ◌≤◌, ◌<◌, suc, ℕ, List, [], ◌∷◌, ◌++◌, length, take, drop, sym, subst, ◌∙◌, ap, arith}
use Rattle.std.proofs.lemmas.List.{drop_all}
use Rattle.std.proofs.lemmas.Option.{slice_get_within, get_or_from_slice_get}
use Rattle.std.specs.Prelude.{Option, Some, slice_get}
use Rattle.registry_pack.specs.declared.extent.Extent.{Extent}
use Rattle.registry_pack.specs.Holes.{IsFree, AreHolesFrom, AreHoles}
use Rattle.registry_pack.specs.Joining.{end_behind}
use Rattle.registry_pack.proofs.FreeLemmas.{free_left, free_right, free_split, free_below, holes_first, holes_rest, at_index}

module _ (front : List Extent) (hole : Extent) (h : AreHoles (front ++ hole ∷ [])) where
  last_order : AreHolesFrom (end_behind 0 front) (hole ∷ [])
  last_order = holes_rest 0 front (hole ∷ []) h

  below_last : (p : ℕ) → IsFree front p → p + 1 < hole.at
  below_last p f = omega (arith, free_below 0 front (holes_first 0 front (hole ∷ []) h) p f, last_order.0.0)

  pub holes_front : AreHoles front
  holes_front = holes_first 0 front (hole ∷ []) h

  pub last_free : (p : ℕ) → hole.at ≤ p → p < hole.at + hole.size → IsFree (front ++ hole ∷ []) p
  last_free p above below = free_right front (hole ∷ []) p (inl (above, below))

  pub free_front : (p : ℕ) → IsFree front p ↔ (IsFree (front ++ hole ∷ []) p × ¬ ((hole.at ≤ p) × (p < hole.at + hole.size)))
  free_front p = (
    λ f. (free_left front (hole ∷ []) p f, λ k. absurd (omega (arith, below_last p f, k.0))),
    λ x. elim (free_split front (hole ∷ []) p x.0) [ inl f ↦ f | inr y ↦ elim y [ inl k ↦ absurd (x.1 k) | inr z ↦ absurd z ] ],
  )

  -- the byte before the last hole is not free
  pub not_before_last : (p : ℕ) → p + 1 ≡ hole.at → IsFree (front ++ hole ∷ []) p → ⊥
  not_before_last p e f =
      elim (free_split front (hole ∷ []) p f) [
        | inl x ↦ absurd (omega (arith, below_last p x))
        | inr y ↦ elim y [ inl k ↦ absurd (omega (arith, k.0)) | inr z ↦ absurd z ]
      ]

  -- the last hole ends where nothing is free any more, if the byte before is free
  pub last_ends : (end : ℕ) → ((p : ℕ) → IsFree (front ++ hole ∷ []) p → p < end) → (p : ℕ) → p + 1 ≡ end
      → IsFree (front ++ hole ∷ []) p → hole.at + hole.size ≡ end
  last_ends end all p e f =
      let some : 0 < hole.size = last_order.0.1 in
      let under = all (hole.at + hole.size - 1) (last_free (hole.at + hole.size - 1) (omega arith) (omega arith)) in
      elim (free_split front (hole ∷ []) p f) [
        | inl x ↦ absurd (omega (arith, below_last p x, under))
        | inr y ↦ elim y [ inl k ↦ omega (arith, k.1, under) | inr z ↦ absurd z ]
      ]

module _ (xs : List Extent) (hole : Extent) (last : slice_get xs (length xs - 1) ≡ Some hole) (h : AreHoles xs) where
  abbrev front : List Extent
  front = take (length xs - 1) xs

  last_parts : xs ≡ front ++ hole ∷ []
  last_parts =
      let lt = slice_get_within xs (length xs - 1) hole last in
      let none : drop (suc (length xs - 1)) xs ≡ [] = drop_all (suc (length xs - 1)) xs (omega arith) in
      at_index xs (length xs - 1) hole lt (sym (get_or_from_slice_get xs (length xs - 1) hole hole last)) ∙ ap (λ (l : List Extent). front ++ hole ∷ l) none

  parts_order : AreHoles (front ++ hole ∷ [])
  parts_order = subst (λ (l : List Extent). AreHoles l) last_parts h

  pub holes_trimmed : (new : List Extent) → new ≡ front → AreHoles new
  holes_trimmed new n = subst (λ (l : List Extent). AreHoles l) (sym n) (holes_front front hole parts_order)

  module _ (at end : ℕ) (begins : at ≡ hole.at) (ends : hole.at + hole.size ≡ end) where
    pub trimmed_was_free : (p : ℕ) → at ≤ p → p < end → IsFree xs p
    trimmed_was_free p above below =
        subst (λ (l : List Extent). IsFree l p) (sym last_parts) (last_free front hole parts_order p (omega arith) (omega arith))

    pub free_trimmed : (new : List Extent) → new ≡ front → (p : ℕ) → IsFree new p ↔ (IsFree xs p × ¬ ((at ≤ p) × (p < end)))
    free_trimmed new n p =
        let out = free_front front hole parts_order p in (
          λ f. (let x = out.0 (subst (λ (l : List Extent). IsFree l p) n f) in
              (subst (λ (l : List Extent). IsFree l p) (sym last_parts) x.0, λ k. x.1 (omega (arith, k.0), omega (arith, k.1)))),
          λ x. subst (λ (l : List Extent). IsFree l p) (sym n)
              (out.1 (subst (λ (l : List Extent). IsFree l p) last_parts x.0, λ k. x.1 (omega (arith, k.0), omega (arith, k.1)))),
        )

    pub not_before_trimmed : (p : ℕ) → p + 1 ≡ at → IsFree xs p → ⊥
    not_before_trimmed p e f = not_before_last front hole parts_order p (e ∙ begins) (subst (λ (l : List Extent). IsFree l p) last_parts f)

  -- where nothing is free from the end on, and the byte before it is, the last hole ends there
  pub trims_there : (end : ℕ) → ((p : ℕ) → IsFree xs p → p < end) → (p : ℕ) → p + 1 ≡ end → IsFree xs p → hole.at + hole.size ≡ end
  trims_there end all p e f =
      last_ends front hole parts_order end (λ q g. all q (subst (λ (l : List Extent). IsFree l q) (sym last_parts) g)) p e
      (subst (λ (l : List Extent). IsFree l p) last_parts f)

  pub free_before_end : (p : ℕ) → IsFree xs p → p < hole.at + hole.size
  free_before_end p f =
      elim (free_split front (hole ∷ []) p (subst (λ (l : List Extent). IsFree l p) last_parts f)) [
        | inl x ↦ omega (arith, below_last front hole parts_order p x)
        | inr y ↦ elim y [ inl k ↦ omega (arith, k.1) | inr z ↦ absurd z ]
      ]

-- what `last` gave, as an element of the list
pub at_end : (shown items : List Extent) (found : Option Extent) (hole : Extent) → shown ≡ items
    → found ≡ slice_get shown (length shown - 1) → Some hole ≡ found → slice_get items (length items - 1) ≡ Some hole
at_end shown items found hole same is some = subst (λ (l : List Extent). slice_get l (length l - 1) ≡ Some hole) same (sym is ∙ sym some)
