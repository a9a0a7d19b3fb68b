-- The faults of two keepers, told apart.
use Rattle.std.specs.Prelude.{◌≡◌, Result, Ok, Err, IsOk, ⊤}
use Rattle.oci_types.specs.Text.{Text}
use Rattle.oci_types.specs.Manifest.{shown, manifest_in}
use Rattle.oci_types.specs.declared.manifest.Manifest.{Manifest}
use Rattle.oci_types.specs.declared.fault.Fault.{Fault}
use Rattle.oci_types.specs.declared.fault.Fault.TheVariants as fault
use Rattle.registry_copy.specs.declared.fault.CopyFault.{CopyFault}
use Rattle.registry_copy.specs.declared.fault.CopyFault.TheVariants.{Memory, Source, Target, Damaged, Occupied}

abbrev pub of_source : {A : Type 0} → Result A Fault → Result A CopyFault
of_source (Ok v) = Ok v
of_source (Err fault.Memory) = Err Memory
of_source (Err fault.Storage) = Err Source

abbrev pub of_target : {A : Type 0} → Result A Fault → Result A CopyFault
of_target (Ok v) = Ok v
of_target (Err fault.Memory) = Err Memory
of_target (Err fault.Storage) = Err Target

abbrev pub IsDamaged : {A : Type 0} → Result A CopyFault → Type 0
IsDamaged (Ok v) = ⊥
IsDamaged (Err Memory) = ⊥
IsDamaged (Err Source) = ⊥
IsDamaged (Err Target) = ⊥
IsDamaged (Err Damaged) = ⊤
IsDamaged (Err Occupied) = ⊥

abbrev pub IsOccupied : {A : Type 0} → Result A CopyFault → Type 0
IsOccupied (Ok v) = ⊥
IsOccupied (Err Memory) = ⊥
IsOccupied (Err Source) = ⊥
IsOccupied (Err Target) = ⊥
IsOccupied (Err Damaged) = ⊥
IsOccupied (Err Occupied) = ⊤

-- the bytes read as this manifest; or memory was wanting; or they read as none
abbrev pub ReadsManifest : Result Manifest CopyFault → Text → Type 0
ReadsManifest (Ok m) bytes = manifest_in bytes ≡ Ok (shown m)
ReadsManifest (Err Memory) bytes = ⊤
ReadsManifest (Err Source) bytes = ⊥
ReadsManifest (Err Target) bytes = ⊥
ReadsManifest (Err Damaged) bytes = IsOk (manifest_in bytes) → ⊥
ReadsManifest (Err Occupied) bytes = ⊥
