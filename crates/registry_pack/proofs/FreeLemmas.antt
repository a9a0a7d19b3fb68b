-- What is free in lists that are put together, and where holes stand.
use Rattle.std.proofs.Common.{◌≡◌, ◌⊎◌, inl, inr, ◌+◌, ◌≤◌, ◌<◌, suc, ℕ, List, [], ◌∷◌, ◌++◌, length, get_or, take, drop, sym, subst, ◌∙◌, ap, arith}
use Rattle.std.proofs.Math.Seq.{drop-cons}
use Rattle.std.proofs.lemmas.List.{take-append-drop}
use Rattle.std.specs.List.{AllByRecursion}
use Rattle.registry_pack.specs.declared.extent.Extent.{Extent}
use Rattle.registry_pack.specs.Holes.{IsFree, AreHolesFrom, AreHoles}
use Rattle.registry_pack.specs.Joining.{end_behind}

pub free_left : (xs ys : List Extent) (p : ℕ) → IsFree xs p → IsFree (xs ++ ys) p
free_left [] ys p h = absurd h
free_left (x ∷ xs) ys p (inl h) = inl h
free_left (x ∷ xs) ys p (inr h) = inr (free_left xs ys p h)

pub free_right : (xs ys : List Extent) (p : ℕ) → IsFree ys p → IsFree (xs ++ ys) p
free_right [] ys p h = h
free_right (x ∷ xs) ys p h = inr (free_right xs ys p h)

pub free_split : (xs ys : List Extent) (p : ℕ) → IsFree (xs ++ ys) p → IsFree xs p ⊎ IsFree ys p
free_split [] ys p h = inr h
free_split (x ∷ xs) ys p (inl h) = inl (inl h)
free_split (x ∷ xs) ys p (inr h) = elim (free_split xs ys p h) [ inl a ↦ inl (inr a) | inr b ↦ inr b ]

pub holes_lower : (low n : ℕ) (es : List Extent) → low ≤ n → AreHolesFrom n es → AreHolesFrom low es
holes_lower low n [] le h = tt
holes_lower low n (e ∷ es) le h = ((omega (arith, h.0.0), h.0.1), h.1)

pub free_above : (low : ℕ) (es : List Extent) → AreHolesFrom low es → (p : ℕ) → IsFree es p → low ≤ p
free_above low [] h p f = absurd f
free_above low (e ∷ es) h p (inl c) = omega (arith, h.0.0, c.0)
free_above low (e ∷ es) h p (inr f) = omega (arith, free_above (e.at + e.size + 1) es h.1 p f, h.0.0)

pub end_behind_grows : (low : ℕ) (es : List Extent) → AreHolesFrom low es → low ≤ end_behind low es
end_behind_grows low [] h = omega arith
end_behind_grows low (e ∷ es) h = omega (arith, end_behind_grows (e.at + e.size + 1) es h.1, h.0.0)

pub free_below : (low : ℕ) (es : List Extent) → AreHolesFrom low es → (p : ℕ) → IsFree es p → p + 1 < end_behind low es
free_below low [] h p f = absurd f
free_below low (e ∷ es) h p (inl c) = omega (arith, end_behind_grows (e.at + e.size + 1) es h.1, c.1)
free_below low (e ∷ es) h p (inr f) = free_below (e.at + e.size + 1) es h.1 p f

pub holes_together : (low : ℕ) (xs ys : List Extent) → AreHolesFrom low xs → AreHolesFrom (end_behind low xs) ys → AreHolesFrom low (xs ++ ys)
holes_together low [] ys h k = k
holes_together low (x ∷ xs) ys h k = (h.0, holes_together (x.at + x.size + 1) xs ys h.1 k)

pub holes_first : (low : ℕ) (xs ys : List Extent) → AreHolesFrom low (xs ++ ys) → AreHolesFrom low xs
holes_first low [] ys h = tt
holes_first low (x ∷ xs) ys h = (h.0, holes_first (x.at + x.size + 1) xs ys h.1)

pub holes_rest : (low : ℕ) (xs ys : List Extent) → AreHolesFrom low (xs ++ ys) → AreHolesFrom (end_behind low xs) ys
holes_rest low [] ys h = h
holes_rest low (x ∷ xs) ys h = holes_rest (x.at + x.size + 1) xs ys h.1

pub end_behind_within : (low n : ℕ) (es : List Extent) → low ≤ n → AllByRecursion (λ e. e.at + e.size < n) es → end_behind low es ≤ n
end_behind_within low n [] le a = le
end_behind_within low n (e ∷ es) le a = end_behind_within (e.at + e.size + 1) n es (omega (arith, a.0)) a.1

abbrev split : (i : ℕ) (xs : List Extent) → xs ≡ take i xs ++ drop i xs
split i xs = sym (take-append-drop i xs)

pub holes_take : (i : ℕ) (xs : List Extent) → AreHoles xs → AreHoles (take i xs)
holes_take i xs h = holes_first 0 (take i xs) (drop i xs) (subst (λ (l : List Extent). AreHoles l) (split i xs) h)

pub holes_drop : (i : ℕ) (xs : List Extent) → AreHoles xs → AreHolesFrom (end_behind 0 (take i xs)) (drop i xs)
holes_drop i xs h = holes_rest 0 (take i xs) (drop i xs) (subst (λ (l : List Extent). AreHoles l) (split i xs) h)

pub free_parts : (i : ℕ) (xs : List Extent) (p : ℕ) → IsFree xs p → IsFree (take i xs) p ⊎ IsFree (drop i xs) p
free_parts i xs p f = free_split (take i xs) (drop i xs) p (subst (λ (l : List Extent). IsFree l p) (split i xs) f)

pub free_from_take : (i : ℕ) (xs : List Extent) (p : ℕ) → IsFree (take i xs) p → IsFree xs p
free_from_take i xs p f = subst (λ (l : List Extent). IsFree l p) (take-append-drop i xs) (free_left (take i xs) (drop i xs) p f)

pub free_from_drop : (i : ℕ) (xs : List Extent) (p : ℕ) → IsFree (drop i xs) p → IsFree xs p
free_from_drop i xs p f = subst (λ (l : List Extent). IsFree l p) (take-append-drop i xs) (free_right (take i xs) (drop i xs) p f)

-- the hole at an index, between those before and behind it
pub at_index : (xs : List Extent) (i : ℕ) (hole : Extent) → i < length xs → hole ≡ get_or xs i hole → xs ≡ take i xs ++ hole ∷ drop (suc i) xs
at_index xs i hole lt is =
    sym (take-append-drop i xs) ∙ ap (λ (l : List Extent). take i xs ++ l) (drop-cons xs i hole lt ∙ ap (λ (x : Extent). x ∷ drop (suc i) xs) (sym is))
