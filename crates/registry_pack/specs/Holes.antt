-- Free bytes of a file, as extents.
use Rattle.std.specs.Prelude.{◌⊎◌, ◌↔◌, ◌+◌, ◌≤◌, ◌<◌, ℕ, List, [], ◌∷◌, ⊤}
use Rattle.std.specs.Coded.{×_prop, Unit-prop, le_prop}
use Rattle.registry_pack.specs.declared.extent.Extent.{Extent}
use Rattle.registry_pack.specs.Extents.{Covers}

-- one of the extents has the byte at this offset
abbrev pub IsFree : List Extent → ℕ → Type 0
IsFree [] p = ⊥
IsFree (e ∷ es) p = Covers e p ⊎ IsFree es p

-- each of n bytes from an offset on is free
abbrev pub IsRun : List Extent → ℕ → ℕ → Type 0
IsRun holes at n = (p : ℕ) → at ≤ p → p < at + n → IsFree holes p

-- Each extent has bytes and ends before the next begins, with at least one byte between them. The first
-- begins at `low` or behind it.
abbrev pub AreHolesFrom : ℕ → List Extent → Type 0
AreHolesFrom low [] = ⊤
AreHolesFrom low (e ∷ es) = ((low ≤ e.at) × (0 < e.size)) × AreHolesFrom (e.at + e.size + 1) es

pub AreHolesFrom-prop : (low : ℕ) (holes : List Extent) → IsProp (AreHolesFrom low holes)
AreHolesFrom-prop low [] = Unit-prop
AreHolesFrom-prop low (e ∷ es) = ×_prop (×_prop le_prop le_prop) (AreHolesFrom-prop (e.at + e.size + 1) es)

-- the extents are holes: sorted, with bytes, and neither overlapping nor touching
abbrev pub AreHoles : List Extent → Type 0
AreHoles holes = AreHolesFrom 0 holes

-- the bytes of the extent were free, and are so no longer; all else is as it was
pub record Takes (old new : List Extent) (e : Extent) : Type 0 where
  pub was_free : (p : ℕ) → Covers e p → IsFree old p
  pub after : (p : ℕ) → IsFree new p ↔ (IsFree old p × ¬ Covers e p)

-- the bytes of the extent are free besides
abbrev pub Gives : List Extent → List Extent → Extent → Type 0
Gives old new e = (p : ℕ) → IsFree new p ↔ (IsFree old p ⊎ Covers e p)
