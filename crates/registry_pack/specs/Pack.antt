-- What a pack shows: its file, its mark and age, and which space is free.
use Rattle.std.specs.Prelude.{◌≡◌, ◌⊎◌, ◌+◌, ◌≤◌, ◌<◌, ℕ, List}
use Rattle.sqlite_disk.specs.declared.Disk.{Ghosts}
use Rattle.registry_pack.specs.declared.head.Head.{Head}
use Rattle.registry_pack.specs.declared.pack.Pack.{Pack}
use Rattle.registry_pack.specs.Space.{holes_in, IsFreeIn}

abbrev pub file_of : {D : Type 0} {g : Ghosts D} → Pack D g → D
file_of pack = pack.disk

abbrev pub head_of : {D : Type 0} {g : Ghosts D} → Pack D g → Head
head_of pack = pack.head

abbrev pub mark_of : {D : Type 0} {g : Ghosts D} → Pack D g → List ℕ
mark_of pack = pack.head.mark

abbrev pub age_of : {D : Type 0} {g : Ghosts D} → Pack D g → ℕ
age_of pack = pack.head.age

-- the offset from which on all may be written
abbrev pub end_of : {D : Type 0} {g : Ghosts D} → Pack D g → ℕ
end_of pack = pack.end

-- the byte at this offset may be handed out and written in this age
abbrev pub IsWritable : {D : Type 0} {g : Ghosts D} → Pack D g → ℕ → Type 0
IsWritable pack p = IsFreeIn pack.free p ⊎ (pack.end ≤ p)

-- so may each of n bytes from an offset on
abbrev pub AreWritable : {D : Type 0} {g : Ghosts D} → Pack D g → ℕ → ℕ → Type 0
AreWritable pack at n = (p : ℕ) → at ≤ p → p < at + n → IsWritable pack p

-- the byte at this offset may be written in the next age
abbrev pub IsRetired : {D : Type 0} {g : Ghosts D} → Pack D g → ℕ → Type 0
IsRetired pack p = IsFreeIn pack.retired p

-- the file, the mark and the age are as they were
pub record KeepsFile {D : Type 0} {g : Ghosts D} (old new : Pack D g) : Type 0 where
  pub file : file_of new ≡ file_of old
  pub head : head_of new ≡ head_of old

abbrev pub KeepsWritable : {D : Type 0} {g : Ghosts D} → Pack D g → Pack D g → Type 0
KeepsWritable old new = (holes_in new.free ≡ holes_in old.free) × (new.end ≡ old.end)

abbrev pub KeepsRetired : {D : Type 0} {g : Ghosts D} → Pack D g → Pack D g → Type 0
KeepsRetired old new = holes_in new.retired ≡ holes_in old.retired

-- the mark, the age and what is free are as they were
pub record KeepsSpace {D : Type 0} {g : Ghosts D} (old new : Pack D g) : Type 0 where
  pub head : head_of new ≡ head_of old
  pub writable : KeepsWritable old new
  pub retired : KeepsRetired old new
