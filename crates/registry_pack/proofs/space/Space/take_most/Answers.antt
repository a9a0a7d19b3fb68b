use Rattle.std.specs.List.{HoldsAt}
use Rattle.std.proofs.Common.{ℕ, ◌≡◌, inl, inr, ◌+◌, ◌<◌, ◌≤◌, List, length, subst, ap, arith, All}
use Rattle.std.proofs.lemmas.Bool.{cases_lt}
use Rattle.registry_pack.specs.declared.extent.Extent.{Extent}
use Rattle.registry_pack.specs.Holes.{IsRun}
use Rattle.registry_pack.proofs.RunLemmas.{hole_has_bytes, no_longer_run}
use Rattle.registry_pack.proofs.TakeLemmas.{IsRun-hole}
use Rattle.registry_pack.proofs.space.Space.take_most.Goals as goal

pub cut-requires-clause-some : goal.cut-requires-clause-some
cut-requires-clause-some c =
    let s = c.take.new.self in
    let hole = c.index.result.now in
    let lt = subst (λ (l : List Extent). c.in_ok-index.index < length l) c.deref.ensures.value c.in_ok-index.ensures.found.0 in
    let some = hole_has_bytes 0 s.holes.items s.apart c.in_ok-index.index hole lt in
    omega (arith, some, ap (λ (e : Extent). e.size) c.index.ensures)

pub returns-clause-size : goal.returns-clause-size
returns-clause-size c =
    let s = c.take.new.self in
    let hole = c.index.result.now in
    let lt = subst (λ (l : List Extent). c.in_ok-index.index < length l) c.deref.ensures.value c.in_ok-index.ensures.found.0 in
    let some = hole_has_bytes 0 s.holes.items s.apart c.in_ok-index.index hole lt in
    let same = c.in_default.ensures.none in
    let less : hole.size < c.args.size = elim (cases_lt hole.size c.args.size) [
      | inl x ↦ x
      | inr y ↦ absurd (c.in_default.ensures.no_room hole.at (subst (λ (l : List Extent). IsRun l hole.at c.args.size) same
          (IsRun-hole s.holes.items c.in_ok-index.index hole lt c.index.ensures s.apart c.args.size y)))
    ] in
    (omega (arith, some, ap (λ (e : Extent). e.size) c.index.ensures), omega (arith, less))

pub returns-clause-most : goal.returns-clause-most
returns-clause-most c =
    let s = c.take.new.self in
    let i = c.in_ok-index.index in
    let hole = c.index.result.now in
    let found = subst (λ (l : List Extent). HoldsAt (λ most. All (λ e. e.size ≤ most.size) l) l i) c.deref.ensures.value c.in_ok-index.ensures.found.1 in
    let one : c.cut.result.size ≡ hole.size = omega (arith, c.cut.ensures.size) in
    let under : All (λ e. e.size < c.cut.result.size + 1) s.holes.items =
    λ k d lt. omega (arith, found hole k d lt, ap (λ (e : Extent). e.size) c.index.ensures) in
    λ less. subst (λ (l : List Extent). (at : ℕ) → IsRun l at (c.cut.result.size + 1) → ⊥) c.in_default.ensures.none
    (no_longer_run s.holes.items s.apart (c.cut.result.size + 1) (omega arith) under)
