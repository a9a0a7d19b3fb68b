-- What is known of the places that the rows name, once the pack was opened by them.
use Rattle.std.proofs.Common.{◌≡◌, inl, inr, ◌+◌, ◌≤◌, ◌<◌, ℕ, List, [], ◌∷◌, length, arith}
use Rattle.std.specs.Prelude.{◌↔◌, max}
use Rattle.std.specs.List.Sorted.{IsPermutation}
use Rattle.std.proofs.lemmas.List.Sorted.{IsPermutation-sym}
use Rattle.sqlite_disk.specs.declared.Disk.{Ghosts}
use Rattle.sqlite.specs.Order.{Row}
use Rattle.sqlite_trees.proofs.ListLemmas.{all-permutation}
use Rattle.registry_pack.specs.declared.extent.Extent.{Extent}
use Rattle.registry_pack.specs.declared.pack.Pack.{Pack}
use Rattle.registry_pack.specs.Blocks.{IsInBlocks, IsInUse, block_ceil, block_floor}
use Rattle.registry_pack.specs.Extents.{AreWithin}
use Rattle.registry_pack.specs.Pack.{IsRetired, IsWritable, end_of}
use Rattle.store_pack.specs.Opening.{AreSpared, AreThere}
use Rattle.store_contents.specs.Places.{runs_of}
use Rattle.store_places.specs.Places.{runs_at}

ceil_up : (n : ℕ) → n ≤ block_ceil n
ceil_up n = omega arith

floor_down : (n : ℕ) → block_floor n ≤ n
floor_down n = omega arith

there_at : (file : List ℕ) (es : List Extent) → AreWithin file es → AreThere file (runs_at es)
there_at file [] within = tt
there_at file (e ∷ es) within = (within.0, there_at file es within.1)

-- what holds of each extent in use holds of what each row names
pub all_there : (file : List ℕ) (rows : List Row) (es : List Extent) → IsPermutation (runs_of rows) (runs_at es) → AreWithin file es → AreThere file (runs_of rows)
all_there file rows es same within = all-permutation _ (runs_at es) (runs_of rows) (IsPermutation-sym _ _ same) (there_at file es within)

pub in_blocks : (e : Extent) (p : ℕ) → 8192 ≤ p → e.at ≤ p → p < e.at + e.size → IsInBlocks e p
in_blocks e p behind low high = (behind, omega (arith, floor_down e.at), omega (arith, ceil_up (e.at + e.size)))

module _ {D : Type 0} {g : Ghosts D} (pack : Pack D g) (file : List ℕ) (all : List Extent) (end : end_of pack ≡ block_ceil (max (length file) 8192))
    (writable : (p : ℕ) → IsWritable pack p ↔ (end_of pack ≤ p))
    (retired : (p : ℕ) → IsRetired pack p ↔ ((8192 ≤ p) × (p < end_of pack) × (IsInUse all p → ⊥))) where
  spared_at : (es : List Extent) → ((p : ℕ) → IsInUse es p → IsInUse all p) → AreWithin file es → AreSpared pack (runs_at es)
  spared_at [] among within = tt
  spared_at (e ∷ es) among within = (
    (λ p low high.
        let size : e.at + e.size ≤ length file = within.0 in (
          (λ may. let past = (writable p).0 may in absurd (omega (arith, past, end, ceil_up (max (length file) 8192), size))),
          (λ may. let it = (retired p).0 may in it.2 (among p (inl (in_blocks e p it.0 low high)))),
        )),
    spared_at es (λ p used. among p (inr used)) within.1,
  )

  pub all_spared : (rows : List Row) → IsPermutation (runs_of rows) (runs_at all) → AreWithin file all → AreSpared pack (runs_of rows)
  all_spared rows same within = all-permutation _ (runs_at all) (runs_of rows) (IsPermutation-sym _ _ same) (spared_at all (λ p used. used) within)
