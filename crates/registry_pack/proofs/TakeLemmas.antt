-- Bytes that are taken from a hole.
use Rattle.std.proofs.Common.{◌≡◌, inl, inr, ◌↔◌, ◌+◌, ◌≤◌, ◌<◌, suc, ℕ, List, [], ◌∷◌, ◌++◌, length, get_or, set, take, drop, sym, subst, ◌∙◌, arith}
use Rattle.std.proofs.lemmas.List.{set_split}
use Rattle.std.proofs.lemmas.Bool.{cases_lt}
use Rattle.std.specs.List.{remove}
use Rattle.registry_pack.specs.declared.extent.Extent.{Extent}
use Rattle.registry_pack.specs.Extents.{Covers}
use Rattle.registry_pack.specs.Holes.{IsFree, IsRun, AreHolesFrom, AreHoles, Takes}
use Rattle.registry_pack.specs.Joining.{end_behind}
use Rattle.registry_pack.proofs.FreeLemmas.{free_left, free_right, free_split, free_above, free_below}
use Rattle.registry_pack.proofs.FreeLemmas.{holes_lower, holes_first, holes_rest, holes_together, at_index}

-- ---- an extent of a hole is taken, and what is left of the hole stands in its place

module _ (front : List Extent) (hole : Extent) (back : List Extent) (h : AreHoles (front ++ hole ∷ back)) where
  order : AreHolesFrom (end_behind 0 front) (hole ∷ back)
  order = holes_rest 0 front (hole ∷ back) h

  not_front : (p : ℕ) → IsFree front p → Covers hole p → ⊥
  not_front p f k = omega (arith, free_below 0 front (holes_first 0 front (hole ∷ back) h) p f, order.0.0, k.0)

  not_back : (p : ℕ) → IsFree back p → Covers hole p → ⊥
  not_back p f k = omega (arith, free_above (hole.at + hole.size + 1) back order.1 p f, k.1)

  Takes-left : (left : List Extent) (e : Extent) → ((p : ℕ) → Covers e p → Covers hole p) → ((p : ℕ) → IsFree left p ↔ (Covers hole p × ¬ Covers e p))
      → Takes (front ++ hole ∷ back) (front ++ (left ++ back)) e
  Takes-left left e within is = record {
    was_free = λ p k. free_right front (hole ∷ back) p (inl (within p k));
    after = λ p. (
      λ f. elim (free_split front (left ++ back) p f) [
        | inl x ↦ (free_left front (hole ∷ back) p x, λ k. not_front p x (within p k))
        | inr x ↦ elim (free_split left back p x) [
          | inl y ↦ (let z = (is p).0 y in (free_right front (hole ∷ back) p (inl z.0), z.1))
          | inr y ↦ (free_right front (hole ∷ back) p (inr y), λ k. not_back p y (within p k))
        ]
      ],
      λ x. elim (free_split front (hole ∷ back) p x.0) [
        | inl y ↦ free_left front (left ++ back) p y
        | inr y ↦ elim y [
          | inl k ↦ free_right front (left ++ back) p (free_left left back p ((is p).1 (k, x.1)))
          | inr z ↦ free_right front (left ++ back) p (free_right left back p z)
        ]
      ],
    );
  }

  -- the whole hole
  Takes-whole : (e : Extent) → e.at ≡ hole.at → e.size ≡ hole.size → Takes (front ++ hole ∷ back) (front ++ back) e
  Takes-whole e at size =
      Takes-left [] e (λ p k. (omega (arith, k.0), omega (arith, k.1))) (λ p. (λ f. absurd f, λ x. absurd (x.1 (omega (arith, x.0.0), omega (arith, x.0.1)))))

  holes_whole : AreHoles (front ++ back)
  holes_whole =
      holes_together 0 front back (holes_first 0 front (hole ∷ back) h)
      (holes_lower (end_behind 0 front) (hole.at + hole.size + 1) back (omega (arith, order.0.0)) order.1)

  -- its first bytes
  Takes-part : (e rest : Extent) → e.at ≡ hole.at → e.size < hole.size → rest.at ≡ e.at + e.size → rest.at + rest.size ≡ hole.at + hole.size
      → Takes (front ++ hole ∷ back) (front ++ rest ∷ back) e
  Takes-part e rest at size from end =
      Takes-left (rest ∷ []) e (λ p k. (omega (arith, k.0), omega (arith, k.1))) (λ p. (
        λ f. elim f [
          | inl k ↦ ((omega (arith, k.0), omega (arith, k.1)), λ z. absurd (omega (arith, k.0, z.1)))
          | inr z ↦ absurd z
        ],
        λ x. elim (cases_lt p rest.at) [
          | inl below ↦ absurd (x.1 (omega (arith, x.0.0), omega arith))
          | inr above ↦ inl (above, omega (arith, x.0.1))
        ],
      ))

  holes_part : (rest : Extent) → hole.at ≤ rest.at → 0 < rest.size → rest.at + rest.size ≡ hole.at + hole.size → AreHoles (front ++ rest ∷ back)
  holes_part rest at some end =
      holes_together 0 front (rest ∷ back) (holes_first 0 front (hole ∷ back) h)
      ((omega (arith, order.0.0), some), holes_lower (rest.at + rest.size + 1) (hole.at + hole.size + 1) back (omega arith) order.1)

module _ (xs : List Extent) (i : ℕ) (hole : Extent) (lt : i < length xs) (is : hole ≡ get_or xs i hole) (h : AreHoles xs) where
  abbrev parts : xs ≡ take i xs ++ hole ∷ drop (suc i) xs
  parts = at_index xs i hole lt is

  abbrev order_of_parts : AreHoles (take i xs ++ hole ∷ drop (suc i) xs)
  order_of_parts = subst (λ (l : List Extent). AreHoles l) (at_index xs i hole lt is) h

  pub Takes-remove : (new : List Extent) → new ≡ remove xs i → (e : Extent) → e.at ≡ hole.at → e.size ≡ hole.size → Takes xs new e
  Takes-remove new n e at size =
      subst (λ (l : List Extent). Takes xs l e) (sym n)
      (subst (λ (l : List Extent). Takes l (remove xs i) e) (sym parts) (Takes-whole (take i xs) hole (drop (suc i) xs) order_of_parts e at size))

  pub holes_remove : (new : List Extent) → new ≡ remove xs i → AreHoles new
  holes_remove new n = subst (λ (l : List Extent). AreHoles l) (sym n) (holes_whole (take i xs) hole (drop (suc i) xs) order_of_parts)

  pub Takes-set : (rest : Extent) (new : List Extent) → new ≡ set xs i rest → (e : Extent) → e.at ≡ hole.at → e.size < hole.size → rest.at ≡ e.at + e.size
      → rest.at + rest.size ≡ hole.at + hole.size → Takes xs new e
  Takes-set rest new n e at size from end =
      subst (λ (l : List Extent). Takes xs l e) (sym (n ∙ set_split xs i rest lt))
      (subst (λ (l : List Extent). Takes l (take i xs ++ rest ∷ drop (suc i) xs) e) (sym parts)
      (Takes-part (take i xs) hole (drop (suc i) xs) order_of_parts e rest at size from end))

  pub holes_set : (rest : Extent) (new : List Extent) → new ≡ set xs i rest → hole.at ≤ rest.at → 0 < rest.size
      → rest.at + rest.size ≡ hole.at + hole.size → AreHoles new
  holes_set rest new n at some end =
      subst (λ (l : List Extent). AreHoles l) (sym (n ∙ set_split xs i rest lt)) (holes_part (take i xs) hole (drop (suc i) xs) order_of_parts rest at some end)

  -- a hole is a run
  pub IsRun-hole : (n : ℕ) → n ≤ hole.size → IsRun xs hole.at n
  IsRun-hole n le p above below =
      subst (λ (l : List Extent). IsFree l p) (sym parts) (free_right (take i xs) (hole ∷ drop (suc i) xs) p (inl (above, omega arith)))
