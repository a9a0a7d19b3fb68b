-- An extent joined with holes.
use Rattle.std.specs.Prelude.{◌⊎◌, ◌↔◌, ◌+◌, ◌≤◌, ◌<◌, ℕ, List, [], ◌∷◌, length, take, drop}
use Rattle.std.specs.List.{AllByRecursion}
use Rattle.registry_pack.specs.declared.extent.Extent.{Extent}
use Rattle.registry_pack.specs.Extents.{Covers, ends_at}
use Rattle.registry_pack.specs.Holes.{IsFree, AreHolesFrom}

-- the holes before the index end before the offset, and those from it on end there or behind it
pub record IsFirstEnding (holes : List Extent) (at : ℕ) (i : ℕ) : Type 0 where
  pub within : i ≤ length holes
  pub before : AllByRecursion (λ e. ends_at e < at) (take i holes)
  pub rest : AllByRecursion (λ e. at ≤ ends_at e) (drop i holes)

-- the first offset where a hole may begin behind these, where it may begin at `low` behind none
abbrev pub end_behind : ℕ → List Extent → ℕ
end_behind low [] = low
end_behind low (e ∷ es) = end_behind (e.at + e.size + 1) es

-- The hole is the extent with the holes from `first` up to `until`: it may stand in their place.
pub record Joins (holes : List Extent) (first : ℕ) (extent hole : Extent) (until : ℕ) : Type 0 where
  pub order : first ≤ until
  pub within : until ≤ length holes
  pub some : 0 < hole.size
  pub behind : end_behind 0 (take first holes) ≤ hole.at
  pub before : AreHolesFrom (hole.at + hole.size + 1) (drop until holes)
  pub covers : (p : ℕ)
      → (Covers hole p ⊎ IsFree (drop until holes) p) ↔ (Covers extent p ⊎ IsFree (drop first holes) p)
