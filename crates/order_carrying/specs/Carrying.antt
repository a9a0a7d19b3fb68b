-- What carrying an order out comes to (profile).
use Rattle.std.specs.Prelude.{◌≡◌, true, Option, Some, None, Result, Ok, Err}
use Rattle.std.specs.Io.KnownBytes.{Appends}
use Rattle.oci_types.specs.Text.{Text}
use Rattle.registry_model.specs.Lookups.{usages_of}
use Rattle.registry_model.specs.Keeping.{Kept}
use Rattle.registry_orders.specs.declared.failure.Failure.{Failure}
use Rattle.registry_orders.specs.declared.failure.Failure.TheVariants.{NoRepo, OutOfMemory, StorageFailure, ConnectionFailure}
use Rattle.registry_orders.specs.declared.orders.Order.{Order}
use Rattle.registry_orders.specs.declared.orders.Order.TheVariants as asked
use Rattle.registry_orders.specs.Orders.{Obeys}
use Rattle.registry_orders.specs.Outputs.{Output, AppendsPart, IsSilent}
use Rattle.order_texts.specs.Table.{table_of}
use Rattle.order_carrying.specs.Listed.{IsListText}

-- the table of the world was written; or memory was wanting, the storage failed, or writing did and a first
-- part of the table was written; the world stays
abbrev pub Shows : Kept → Result (Unit {0}) Failure → Output → Kept → Type 0
Shows s (Ok v) o s' = Appends o.held o.held' (table_of (usages_of s.world)) × (s' ≡ s)
Shows s (Err OutOfMemory) o s' = IsSilent o × (s' ≡ s)
Shows s (Err StorageFailure) o s' = IsSilent o × (s'.spent ≡ true)
Shows s (Err ConnectionFailure) o s' =
    AppendsPart o.held o.held' (table_of (usages_of s.world)) × (s' ≡ s)
Shows s (Err _) o s' = ⊥

-- a text that is so was written; or there is none, since the repository is not there; or memory was wanting,
-- the storage failed, or writing did and a first part of the text was written; the world stays
abbrev pub ShowsList : Kept → (Option Text → Type 0) → Result (Unit {0}) Failure → Output → Kept → Type 0
ShowsList s IsSo (Ok v) o s' = (text : Text) × IsSo (Some text) × Appends o.held o.held' text × (s' ≡ s)
ShowsList s IsSo (Err NoRepo) o s' = IsSilent o × (s' ≡ s) × IsSo None
ShowsList s IsSo (Err OutOfMemory) o s' = IsSilent o × (s' ≡ s)
ShowsList s IsSo (Err StorageFailure) o s' = IsSilent o × (s'.spent ≡ true)
ShowsList s IsSo (Err ConnectionFailure) o s' =
    (text : Text) × IsSo (Some text) × AppendsPart o.held o.held' text × (s' ≡ s)
ShowsList s IsSo (Err _) o s' = ⊥

abbrev pub CarriesOrder : Kept → Order → Result (Unit {0}) Failure → Output → Kept → Type 0
CarriesOrder s (asked.Change change) result o s' = IsSilent o × Obeys s change result s'
CarriesOrder s asked.Usage result o s' = Shows s result o s'
CarriesOrder s (asked.List listing form) result o s' =
    ShowsList s (IsListText s.world listing form) result o s'

-- nothing was written, unless writing failed
abbrev pub IsSilentUnlessBroken : Result (Unit {0}) Failure → Output → Type 0
IsSilentUnlessBroken (Ok v) o = Unit {0}
IsSilentUnlessBroken (Err ConnectionFailure) o = Unit {0}
IsSilentUnlessBroken (Err _) o = IsSilent o
