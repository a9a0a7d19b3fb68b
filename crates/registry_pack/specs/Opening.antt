-- What is asked of a file before it is opened as a pack.
use Rattle.std.specs.Prelude.{◌≡◌, ◌≤◌, ◌<◌, ℕ, List, Bool, true, false}
use Rattle.registry_pack.specs.declared.extent.Extent.{Extent}
use Rattle.registry_pack.specs.declared.head.Head.{Head}
use Rattle.registry_pack.specs.declared.head.HeadCopy.{HeadCopy}
use Rattle.registry_pack.specs.declared.pack_opening.OpenError.{OpenError}
use Rattle.registry_pack.specs.declared.pack_opening.OpenError.TheVariants.{Memory, Disk, Missing, Foreign, Newer, Short}
use Rattle.registry_pack.specs.Extents.{AreWithin}
use Rattle.registry_pack.specs.Heads.{Says}

-- the copy says nothing, or a head of this mark and of no higher age
abbrev pub IsNoNewer : List ℕ → List ℕ → ℕ → HeadCopy → Type 0
IsNoNewer file mark age copy = (said : Head) → Says file copy said → (said.mark ≡ mark) × (said.age ≤ age)

-- the file is the pack of the database that has this mark and age
pub record Belongs (file mark : List ℕ) (age : ℕ) : Type 0 where
  pub some : (copy : HeadCopy) × ((said : Head) × Says file copy said)
  pub each : (copy : HeadCopy) → IsNoNewer file mark age copy

-- the copy is a head's or not, and if so, one that may be opened
pub record IsChecked (file mark : List ℕ) (age : ℕ) (copy : HeadCopy) (is_one : Bool) : Type 0 where
  pub each : IsNoNewer file mark age copy
  pub some : is_one ≡ true → (said : Head) × Says file copy said
  pub none : is_one ≡ false → (said : Head) → Says file copy said → ⊥

-- what each error says of the file, if no wrong answer was taken as true
abbrev pub IsReason : Type 0 → List ℕ → List ℕ → ℕ → List Extent → OpenError → Type 0
IsReason clean file mark age used Memory = Unit {0}
IsReason clean file mark age used (Disk error) = Unit {0}
IsReason clean file mark age used Missing = clean → (copy : HeadCopy) (said : Head) → Says file copy said → ⊥
IsReason clean file mark age used Foreign =
    clean → (copy : HeadCopy) × ((said : Head) × (Says file copy said × (said.mark ≡ mark → ⊥)))
IsReason clean file mark age used Newer =
    clean → (copy : HeadCopy)
    × ((said : Head) × (Says file copy said × (said.mark ≡ mark) × (age < said.age)))
IsReason clean file mark age used Short = clean → AreWithin file used → ⊥
