-- What a check of a registry comes to (profile).
use Rattle.std.specs.Prelude.{◌≡◌, ◌≢◌, true, [], Result, Ok, Err, ⊤}
use Rattle.std.specs.Io.KnownBytes.{Appends}
use Rattle.registry_model.specs.Keeping.{Kept}
use Rattle.registry_checking.specs.Wrongs.{wrongs_of}
use Rattle.registry_checking.specs.Lines.{lines_of}
use Rattle.registry_orders.specs.declared.failure.Failure.{Failure}
use Rattle.registry_orders.specs.declared.failure.Failure.TheVariants.{OutOfMemory, StorageFailure, Damaged, ConnectionFailure}
use Rattle.registry_orders.specs.Outputs.{Output, IsSilent}

-- why a check does not end well: something is wrong, memory is wanting, or the storage or writing fails
abbrev pub IsOfCheck : Failure → Type 0
IsOfCheck Damaged = ⊤
IsOfCheck OutOfMemory = ⊤
IsOfCheck StorageFailure = ⊤
IsOfCheck ConnectionFailure = ⊤
IsOfCheck _ = ⊥

-- nothing is wrong, and nothing was written; or a line was, for each thing that is; or memory was wanting,
-- the storage failed or writing did; the world stays
abbrev pub Checks : Kept → Result (Unit {0}) Failure → Output → Kept → Type 0
Checks s (Ok v) o s' = (wrongs_of s.world ≡ []) × IsSilent o × (s' ≡ s)
Checks s (Err Damaged) o s' =
    (wrongs_of s.world ≢ []) × Appends o.held o.held' (lines_of (wrongs_of s.world)) × (s' ≡ s)
Checks s (Err OutOfMemory) o s' = IsSilent o × (s' ≡ s)
Checks s (Err StorageFailure) o s' = s'.spent ≡ true
Checks s (Err ConnectionFailure) o s' = s' ≡ s
Checks s (Err _) o s' = ⊥
