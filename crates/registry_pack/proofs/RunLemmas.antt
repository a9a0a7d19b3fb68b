-- How long a run of free bytes is.
use Rattle.std.proofs.Common.{◌≡◌, inl, inr, ◌+◌, ◌≤◌, ◌<◌, zero, suc, ℕ, List, [], ◌∷◌, ◌++◌, length, get_or, take, drop, sym, subst, arith}
use Rattle.std.proofs.lemmas.List.{append-nil}
use Rattle.std.proofs.lemmas.List.Elements.{recursion_from_All}
use Rattle.std.specs.List.{All, AllByRecursion, AllWithin}
use Rattle.std.specs.Prelude.{Option, Some, None, IfNone}
use Rattle.registry_pack.specs.declared.extent.Extent.{Extent}
use Rattle.registry_pack.specs.Holes.{IsFree, IsRun, AreHolesFrom, AreHoles}
use Rattle.registry_pack.specs.Joining.{end_behind}
use Rattle.registry_pack.proofs.PointLemmas.{all_before}
use Rattle.registry_pack.proofs.FreeLemmas.{free_split, free_above, free_below, holes_first, holes_rest, at_index}

run_behind : (e : Extent) (es : List Extent) (at n : ℕ) → IsRun (e ∷ es) at n → e.at + e.size ≤ at → IsRun es at n
run_behind e es at n run le p above below =
    elim (run p above below) [ inl k ↦ absurd (omega (arith, k.1)) | inr f ↦ f ]

-- a run of n bytes does not begin in the first of these holes, each of which has fewer
pub run_behind_small : (low : ℕ) (small rest : List Extent) → AreHolesFrom low (small ++ rest) → (n : ℕ) → 0 < n → AllByRecursion (λ e. e.size < n) small
    → (at : ℕ) → IsRun (small ++ rest) at n → end_behind low small ≤ at
run_behind_small low [] rest h n some less at run = free_above low rest h at (run at (omega arith) (omega arith))
run_behind_small low (e ∷ es) rest h n some less at run =
    elim (run at (omega arith) (omega arith)) [
      | inl k ↦ (
          let last : IsFree (e ∷ (es ++ rest)) (e.at + e.size) = run (e.at + e.size) (omega (arith, k.1)) (omega (arith, k.0, less.0)) in
          elim last [
            | inl x ↦ absurd (omega (arith, x.1))
            | inr f ↦ absurd (omega (arith, free_above (e.at + e.size + 1) (es ++ rest) h.1 (e.at + e.size) f))
          ])
      | inr f ↦ run_behind_small (e.at + e.size + 1) es rest h.1 n some less.1 at
          (run_behind e (es ++ rest) at n run (omega (arith, free_above (e.at + e.size + 1) (es ++ rest) h.1 at f)))
    ]

-- where each hole has fewer than n bytes, there is no run of n
pub no_longer_run : (es : List Extent) → AreHoles es → (n : ℕ) → 0 < n → All (λ e. e.size < n) es → (at : ℕ) → IsRun es at n → ⊥
no_longer_run es h n some less at run =
    let whole = append-nil es in
    let h' = subst (λ (l : List Extent). AreHoles l) (sym whole) h in
    let run' = subst (λ (l : List Extent). IsRun l at n) (sym whole) run in
    let behind = run_behind_small 0 es [] h' n some (recursion_from_All (λ e. e.size < n) es less) at run' in
    omega (arith, behind, free_below 0 es h at (run at (omega arith) (omega arith)))

-- no run of n bytes begins before the first hole that has n
pub first_run : (es : List Extent) → AreHoles es → (n : ℕ) → 0 < n → (i : ℕ) (hole : Extent) → i < length es → hole ≡ get_or es i hole
    → AllWithin (λ e. e.size < n) es 0 i → (at : ℕ) → IsRun es at n → hole.at ≤ at
first_run es h n some i hole lt is less at run =
    let parts = at_index es i hole lt is in
    let front = take i es in
    let back = drop (suc i) es in
    let h' = subst (λ (l : List Extent). AreHoles l) parts h in
    let run' = subst (λ (l : List Extent). IsRun l at n) parts run in
    let behind = run_behind_small 0 front (hole ∷ back) h' n some (all_before (λ e. e.size < n) es i (omega arith) less) at run' in
    elim (free_split front (hole ∷ back) at (run' at (omega arith) (omega arith))) [
      | inl x ↦ absurd (omega (arith, behind, free_below 0 front (holes_first 0 front (hole ∷ back) h') at x))
      | inr x ↦ elim x [
        | inl k ↦ k.0
        | inr y ↦ omega (arith, free_above (hole.at + hole.size + 1) back (holes_rest 0 front (hole ∷ back) h').1 at y)
      ]
    ]

-- ---- one hole of many

pub hole_has_bytes : (low : ℕ) (es : List Extent) → AreHolesFrom low es → (i : ℕ) (d : Extent) → i < length es → 0 < (get_or es i d).size
hole_has_bytes low [] h i d lt = absurd (omega arith)
hole_has_bytes low (e ∷ es) h zero d lt = h.0.1
hole_has_bytes low (e ∷ es) h (suc i) d lt = hole_has_bytes (e.at + e.size + 1) es h.1 i d (omega arith)

pub on_none : {A : Type 0} (r : Option A) (P : Type 0) → P → IfNone r P
on_none None P p = p
on_none (Some x) P p = tt
