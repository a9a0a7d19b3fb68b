-- The blocks in which space is handed out.
use Rattle.std.specs.Prelude.{◌≡◌, ◌⊎◌, ◌+◌, ◌*◌, ◌/◌, ◌≤◌, ◌<◌, ℕ, List, [], ◌∷◌}
use Rattle.registry_pack.specs.declared.extent.Extent.{Extent}
use Rattle.registry_pack.specs.Holes.{IsFree}

-- where the block with this offset begins
abbrev pub block_floor : ℕ → ℕ
block_floor n = n / 4096 * 4096

-- where the first block begins that has no offset below this one
abbrev pub block_ceil : ℕ → ℕ
block_ceil n = (n + 4095) / 4096 * 4096

-- the extent's blocks have this offset, which is none of the head's
abbrev pub IsInBlocks : Extent → ℕ → Type 0
IsInBlocks e p = (8192 ≤ p) × (block_floor e.at ≤ p) × (p < block_ceil (e.at + e.size))

-- the blocks of one of the extents have this offset
abbrev pub IsInUse : List Extent → ℕ → Type 0
IsInUse [] p = ⊥
IsInUse (e ∷ es) p = IsInBlocks e p ⊎ IsInUse es p

-- what is free lies behind the head and before the end
abbrev pub AreBefore : ℕ → List Extent → Type 0
AreBefore end holes = (p : ℕ) → IsFree holes p → (8192 ≤ p) × (p < end)

-- where a byte of a block is free, so is each
abbrev pub AreWhole : List Extent → Type 0
AreWhole holes = (p q : ℕ) → p / 4096 ≡ q / 4096 → IsFree holes p → (IsFree holes q → ⊥) → ⊥
