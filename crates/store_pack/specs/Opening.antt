-- What is known of a pack that was opened by the rows.
use Rattle.std.specs.Prelude.{◌+◌, ◌≤◌, ◌<◌, ℕ, List, length}
use Rattle.std.specs.List.{AllByRecursion}
use Rattle.sqlite_disk.specs.declared.Disk.{Ghosts}
use Rattle.registry_pack.specs.declared.pack.Pack.{Pack}
use Rattle.registry_pack.specs.Pack.{IsRetired, IsWritable}

-- the file is as long as the rows say
abbrev pub AreThere : List ℕ → List (ℕ × ℕ) → Type 0
AreThere file runs = AllByRecursion (λ (run : ℕ × ℕ). run.0 + run.1 ≤ length file) runs

-- none of these bytes may be written, nor may it be in the next age
abbrev pub AreSpared : {D : Type 0} {g : Ghosts D} → Pack D g → List (ℕ × ℕ) → Type 0
AreSpared pack runs =
    AllByRecursion
    (λ (run : ℕ × ℕ). (p : ℕ) → run.0 ≤ p → p < run.0 + run.1
    → (IsWritable pack p → ⊥) × (IsRetired pack p → ⊥))
    runs
