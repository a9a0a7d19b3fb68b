-- Bytes that are about to become a content.
use Rattle.std.specs.Prelude.{◌≡◌, ◌+◌, ◌≤◌, ◌<◌, ◌^◌, ⊤, ℕ, List, []}
use Rattle.std.specs.List.{AllByRecursion}
use Rattle.sha2.specs.Sha256.{sha256}
use Rattle.registry_pack.specs.declared.extent.Extent.{Extent}
use Rattle.registry_pack.specs.Extents.{AreWithin, bytes_at, size_of, total_of}
use Rattle.registry_pack.specs.Blocks.{IsInUse}
use Rattle.store_contents.specs.Layouts.{Layout, InTables, InPack}
use Rattle.store_places.specs.Places.{runs_at}
use Rattle.store_bytes.specs.declared.staged.Staged.{Staged}
use Rattle.store_bytes.specs.declared.staged.Staged.TheVariants.{InRow, AtExtents}

-- the layout has these bytes where it takes such
abbrev pub IsStaged : Layout → List ℕ → Staged → Type 0
IsStaged InTables bytes InRow = ⊤
IsStaged (InPack file) bytes (AtExtents extents hash) =
    AreWithin file extents.items × (bytes_at file extents.items ≡ bytes) × (hash ≡ sha256 bytes)
IsStaged l bytes staged = ⊥

-- so many bytes, in extents of which each has some; their number fits a column
abbrev pub HasSize : ℕ → Staged → Type 0
HasSize n InRow = ⊤
HasSize n (AtExtents extents hash) =
    (n < 2 ^ 63) × (total_of extents.items ≡ n) × AllByRecursion (λ e. 0 < size_of e) extents.items

abbrev pub extents_staged : Staged → List Extent
extents_staged InRow = []
extents_staged (AtExtents extents hash) = extents.items

-- which bytes of the pack they are, by offset and number
abbrev pub runs_staged : Staged → List (ℕ × ℕ)
runs_staged staged = runs_at (extents_staged staged)

-- none of their blocks has one of these bytes of the pack
abbrev pub IsClear : Staged → ℕ × ℕ → Type 0
IsClear staged run =
    (p : ℕ) → run.0 ≤ p → p < run.0 + run.1 → IsInUse (extents_staged staged) p → ⊥
