-- Why a pack began no new age.
use Rattle.std.specs.Prelude.{◌≡◌, ◌-◌, ◌^◌}
use Rattle.sqlite_disk.specs.declared.Disk.{Ghosts}
use Rattle.registry_pack.specs.declared.pack.Pack.{Pack}
use Rattle.registry_pack.specs.declared.pack_ages.RenewError.{RenewError}
use Rattle.registry_pack.specs.declared.pack_ages.RenewError.TheVariants.{Memory, LastAge, Disk}
use Rattle.registry_pack.specs.Pack.{file_of, age_of}

-- what each error says: the file is as it was, unless the disk failed
abbrev pub IsReason : {D : Type 0} {g : Ghosts D} → Pack D g → Pack D g → RenewError → Type 0
IsReason old new Memory = file_of new ≡ file_of old
IsReason old new LastAge = (age_of old ≡ 2 ^ 64 - 1) × (file_of new ≡ file_of old)
IsReason old new (Disk error) = Unit {0}
