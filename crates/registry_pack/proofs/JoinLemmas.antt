-- An extent is joined with one hole after another.
use Rattle.std.proofs.Common.{◌≡◌, ◌⊎◌, inl, inr, ◌↔◌, ◌+◌, ◌≤◌, ◌<◌, min, max, ℕ, List, [], ◌∷◌, ◌++◌, length, get_or, take, drop, sym, subst, ◌∙◌, ap, arith}
use Rattle.std.proofs.lemmas.List.{drop_more, drop_all}
use Rattle.std.proofs.lemmas.Bool.{cases_lt}
use Rattle.std.specs.List.{AllByRecursion}
use Rattle.registry_pack.specs.declared.extent.Extent.{Extent}
use Rattle.registry_pack.specs.Extents.{Covers}
use Rattle.registry_pack.specs.Holes.{IsFree, AreHolesFrom, AreHoles, Gives}
use Rattle.registry_pack.specs.Joining.{IsFirstEnding, end_behind, Joins}
use Rattle.registry_pack.proofs.FreeLemmas.{free_left, free_right, free_split, free_parts, free_from_take, free_from_drop}
use Rattle.registry_pack.proofs.FreeLemmas.{holes_lower, holes_take, holes_drop, holes_together, end_behind_within}

-- the extent was joined with the holes up to `until`, and may have to be with more
pub record Joining (holes : List Extent) (first : ℕ) (extent : Extent) (hole : Extent) (until : ℕ) : Type 0 where
  pub order : first ≤ until
  pub within : until ≤ length holes
  pub some : 0 < hole.size
  pub behind : end_behind 0 (take first holes) ≤ hole.at
  pub reach : AllByRecursion (λ e. hole.at ≤ e.at + e.size) (drop until holes)
  pub rest : AreHolesFrom (end_behind 0 (take first holes)) (drop until holes)
  pub covers : (p : ℕ) → (Covers hole p ⊎ IsFree (drop until holes) p) ↔ (Covers extent p ⊎ IsFree (drop first holes) p)

pub Joining-start : (holes : List Extent) (first : ℕ) (extent : Extent) → AreHoles holes → IsFirstEnding holes extent.at first → 0 < extent.size
    → Joining holes first extent extent first
Joining-start holes first extent h f some = record {
  order = omega arith;
  within = f.within;
  some = some;
  behind = end_behind_within 0 extent.at (take first holes) (omega arith) f.before;
  reach = f.rest;
  rest = holes_drop first holes h;
  covers = λ p. (λ x. x, λ x. x);
}

reach_lower : (m n : ℕ) (es : List Extent) → m ≤ n → AllByRecursion (λ e. n ≤ e.at + e.size) es → AllByRecursion (λ e. m ≤ e.at + e.size) es
reach_lower m n [] le a = tt
reach_lower m n (e ∷ es) le a = (omega (arith, a.0), reach_lower m n es le a.1)

module _ (a b c : Extent) (touch : b.at ≤ a.at + a.size) (touched : a.at ≤ b.at + b.size) (at : c.at ≡ min a.at b.at)
    (end : c.at + c.size ≡ max (a.at + a.size) (b.at + b.size)) where
  both_covered : (p : ℕ) → Covers c p → Covers a p ⊎ Covers b p
  both_covered p k =
      elim (cases_lt p a.at) [
        | inl x ↦ inr (omega (arith, k.0, at), omega arith)
        | inr x ↦ elim (cases_lt p (a.at + a.size)) [
          | inl y ↦ inl (x, y)
          | inr y ↦ inr (omega arith, omega (arith, k.1, end))
        ]
      ]

  left_covers : (p : ℕ) → Covers a p → Covers c p
  left_covers p k = (omega (arith, k.0, at), omega (arith, k.1, end))

  right_covers : (p : ℕ) → Covers b p → Covers c p
  right_covers p k = (omega (arith, k.0, at), omega (arith, k.1, end))

at_hole : (holes : List Extent) (until : ℕ) (b : Extent) → until < length holes → b ≡ get_or holes until b → drop until holes ≡ b ∷ drop (until + 1) holes
at_hole holes until b lt is = drop_more holes until b lt ∙ ap (λ (x : Extent). x ∷ drop (until + 1) holes) (sym is)

pub Joining-more : (holes : List Extent) (first : ℕ) (extent hole : Extent) (until : ℕ) → Joining holes first extent hole until → (b : Extent)
    → until < length holes → b ≡ get_or holes until b → b.at ≤ hole.at + hole.size
    → (next : Extent) → next.at ≡ min hole.at b.at → next.at + next.size ≡ max (hole.at + hole.size) (b.at + b.size)
    → Joining holes first extent next (until + 1)
Joining-more holes first extent hole until j b lt is touch next at end =
    let e = at_hole holes until b lt is in
    let more = drop (until + 1) holes in
    let low = end_behind 0 (take first holes) in
    let reach = subst (λ (l : List Extent). AllByRecursion (λ e. hole.at ≤ e.at + e.size) l) e j.reach in
    let rest = subst (λ (l : List Extent). AreHolesFrom low l) e j.rest in
    let covers = subst (λ (l : List Extent). (p : ℕ) → (Covers hole p ⊎ IsFree l p) ↔ (Covers extent p ⊎ IsFree (drop first holes) p)) e j.covers in
    let touched : hole.at ≤ b.at + b.size = reach.0 in
    record {
      order = omega (arith, j.order);
      within = omega arith;
      some = omega (arith, j.some, at, end);
      behind = omega (arith, j.behind, rest.0.0, at);
      reach = reach_lower next.at hole.at more (omega (arith, at)) reach.1;
      rest = holes_lower low (b.at + b.size + 1) more (omega (arith, rest.0.0)) rest.1;
      covers = λ p. (
        λ x. elim x [
          | inl k ↦ elim (both_covered hole b next touch touched at end p k) [
            | inl y ↦ (covers p).0 (inl y)
            | inr y ↦ (covers p).0 (inr (inl y))
          ]
          | inr f ↦ (covers p).0 (inr (inr f))
        ],
        λ x. elim ((covers p).1 x) [
          | inl k ↦ inl (left_covers hole b next touch touched at end p k)
          | inr f ↦ elim f [
            | inl k ↦ inl (right_covers hole b next touch touched at end p k)
            | inr g ↦ inr g
          ]
        ],
      );
    }

Joins-from : (holes : List Extent) (first : ℕ) (extent hole : Extent) (until : ℕ) → Joining holes first extent hole until
    → AreHolesFrom (hole.at + hole.size + 1) (drop until holes) → Joins holes first extent hole until
Joins-from holes first extent hole until j before = record {
  order = j.order;
  within = j.within;
  some = j.some;
  behind = j.behind;
  before = before;
  covers = j.covers;
}

-- the next hole stands behind
pub Joins-before : (holes : List Extent) (first : ℕ) (extent hole : Extent) (until : ℕ) → Joining holes first extent hole until → (b : Extent)
    → until < length holes → b ≡ get_or holes until b → hole.at + hole.size < b.at → Joins holes first extent hole until
Joins-before holes first extent hole until j b lt is apart =
    let e = at_hole holes until b lt is in
    let rest = subst (λ (l : List Extent). AreHolesFrom (end_behind 0 (take first holes)) l) e j.rest in
    Joins-from holes first extent hole until j (subst (λ (l : List Extent). AreHolesFrom (hole.at + hole.size + 1) l) (sym e) ((omega arith, rest.0.1), rest.1))

-- no hole is left
pub Joins-last : (holes : List Extent) (first : ℕ) (extent hole : Extent) (until : ℕ) → Joining holes first extent hole until
    → length holes ≤ until → Joins holes first extent hole until
Joins-last holes first extent hole until j le =
    Joins-from holes first extent hole until j (subst (λ (l : List Extent). AreHolesFrom (hole.at + hole.size + 1) l) (sym (drop_all until holes le)) tt)

-- what was joined stands in the place of the holes
module _ (holes : List Extent) (first : ℕ) (extent hole : Extent) (until : ℕ) (h : AreHoles holes) (j : Joins holes first extent hole until) where
  abbrev given : List Extent
  given = take first holes ++ hole ∷ drop until holes

  pub holes_given : AreHoles given
  holes_given = holes_together 0 (take first holes) (hole ∷ drop until holes) (holes_take first holes h) ((j.behind, j.some), j.before)

  pub Gives-joined : Gives holes given extent
  Gives-joined p = (
    λ f. elim (free_split (take first holes) (hole ∷ drop until holes) p f) [
      | inl x ↦ inl (free_from_take first holes p x)
      | inr x ↦ elim ((j.covers p).0 x) [
        | inl k ↦ inr k
        | inr y ↦ inl (free_from_drop first holes p y)
      ]
    ],
    λ x. elim x [
      | inl f ↦ elim (free_parts first holes p f) [
        | inl y ↦ free_left (take first holes) (hole ∷ drop until holes) p y
        | inr y ↦ free_right (take first holes) (hole ∷ drop until holes) p ((j.covers p).1 (inr y))
      ]
      | inr k ↦ free_right (take first holes) (hole ∷ drop until holes) p ((j.covers p).1 (inl k))
    ],
  )
