-- Extents that are apart, and what is free.
use Rattle.std.proofs.Common.{inl, inr, ◌+◌, ◌<◌, ℕ, List, [], ◌∷◌, arith}
use Rattle.std.proofs.lemmas.Bool.{cases_lt}
use Rattle.std.specs.List.{AllByRecursion}
use Rattle.registry_pack.specs.declared.extent.Extent.{Extent}
use Rattle.registry_pack.specs.Extents.{Covers, AreApart, AreElsewhere}
use Rattle.registry_pack.specs.Holes.{IsFree, Takes}

pub AreApart-from_covers : (r e : Extent) → 0 < r.size → 0 < e.size → ((p : ℕ) → Covers r p → Covers e p → ⊥) → AreApart r.at r.size e.at e.size
AreApart-from_covers r e some any none =
    elim (cases_lt e.at (r.at + r.size)) [
      | inr x ↦ inl x
      | inl x ↦ elim (cases_lt r.at (e.at + e.size)) [
        | inr y ↦ inr y
        | inl y ↦ elim (cases_lt r.at e.at) [
          | inl z ↦ absurd (none e.at (omega arith, x) (omega arith, omega arith))
          | inr z ↦ absurd (none r.at (omega arith, omega arith) (z, y))
        ]
      ]
    ]

pub covers_from_AreApart : (r e : Extent) → AreApart r.at r.size e.at e.size → (p : ℕ) → Covers r p → Covers e p → ⊥
covers_from_AreApart r e (inl x) p k l = omega (arith, k.1, l.0)
covers_from_AreApart r e (inr x) p k l = omega (arith, k.0, l.1)

-- what is taken is apart from each extent of which nothing was free
pub AreApart-from_Takes : (old new : List Extent) (e : Extent) → Takes old new e → (r : Extent) → 0 < r.size → 0 < e.size
    → ((p : ℕ) → Covers r p → IsFree old p → ⊥) → AreApart r.at r.size e.at e.size
AreApart-from_Takes old new e takes r some any none =
    AreApart-from_covers r e some any (λ p k l. none p k (takes.was_free p l))

pub AreApart-swap : (a n b m : ℕ) → AreApart a n b m → AreApart b m a n
AreApart-swap a n b m (inl x) = inr x
AreApart-swap a n b m (inr x) = inl x

-- what is taken first and what is taken then are apart
pub AreApart-taken : (old mid new : List Extent) (e f : Extent) → Takes old mid e → Takes mid new f → 0 < e.size → 0 < f.size
    → AreApart e.at e.size f.at f.size
AreApart-taken old mid new e f first then some any =
    AreApart-from_Takes mid new f then e some any (λ p k l. ((first.after p).0 l).1 k)

-- what is taken is elsewhere than extents of which nothing was free
pub AreElsewhere-from_Takes : (old new : List Extent) (e : Extent) → Takes old new e → 0 < e.size → (used : List Extent)
    → AllByRecursion (λ r. 0 < r.size) used → ((p : ℕ) → IsFree used p → IsFree old p → ⊥) → AreElsewhere e.at e.size used
AreElsewhere-from_Takes old new e takes some [] any none = tt
AreElsewhere-from_Takes old new e takes some (r ∷ used) any none = (
  AreApart-swap r.at r.size e.at e.size (AreApart-from_Takes old new e takes r any.0 some (λ p k l. none p (inl k) l)),
  AreElsewhere-from_Takes old new e takes some used any.1 (λ p f l. none p (inr f) l),
)
