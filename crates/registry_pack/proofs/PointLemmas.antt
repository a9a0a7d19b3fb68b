-- Where a search among holes ends.
use Rattle.std.proofs.Common.{◌+◌, ◌≤◌, ◌<◌, zero, suc, ℕ, List, [], ◌∷◌, length, get_or, take, drop, sym, subst, arith}
use Rattle.std.proofs.lemmas.List.{get_or-take, get_or-drop, length-take-le, length-drop}
use Rattle.std.proofs.lemmas.List.Elements.{recursion_from_All}
use Rattle.std.specs.List.{AllByRecursion, AllWithin}
use Rattle.std.specs.List.Sorted.{IsNonDecreasingBy}
use Rattle.registry_pack.specs.declared.extent.Extent.{Extent}
use Rattle.registry_pack.specs.Holes.{AreHolesFrom}

ends_above : (low : ℕ) (es : List Extent) → AreHolesFrom low es → (j : ℕ) (d : Extent) → j < length es → low ≤ (get_or es j d).at + (get_or es j d).size
ends_above low [] h j d lt = absurd (omega arith)
ends_above low (e ∷ es) h zero d lt = omega (arith, h.0.0)
ends_above low (e ∷ es) h (suc j) d lt = omega (arith, h.0.0, ends_above (e.at + e.size + 1) es h.1 j d (omega arith))

pub ends_rise : (low : ℕ) (es : List Extent) → AreHolesFrom low es → IsNonDecreasingBy (λ e. e.at + e.size) es
ends_rise low [] h i j d le lt = absurd (omega arith)
ends_rise low (e ∷ es) h zero zero d le lt = omega arith
ends_rise low (e ∷ es) h zero (suc j) d le lt = omega (arith, ends_above (e.at + e.size + 1) es h.1 j d (omega arith))
ends_rise low (e ∷ es) h (suc i) zero d le lt = absurd (omega arith)
ends_rise low (e ∷ es) h (suc i) (suc j) d le lt = ends_rise (e.at + e.size + 1) es h.1 i j d (omega arith) (omega arith)

pub all_before : {X : Type 0} (P : X → Type 0) (xs : List X) (i : ℕ) → i ≤ length xs → AllWithin P xs 0 i → AllByRecursion P (take i xs)
all_before P xs i le h =
    recursion_from_All P (take i xs) (λ k d lt.
    let in' : k < i = omega (arith, length-take-le i xs le) in
    subst P (sym (get_or-take i xs k d in')) (h k d (omega arith) in'))

pub all_behind : {X : Type 0} (P : X → Type 0) (xs : List X) (i : ℕ) → i ≤ length xs → AllWithin P xs i (length xs) → AllByRecursion P (drop i xs)
all_behind P xs i le h =
    recursion_from_All P (drop i xs) (λ k d lt.
    subst P (sym (get_or-drop i xs k d)) (h (i + k) d (omega arith) (omega (arith, length-drop i xs))))
