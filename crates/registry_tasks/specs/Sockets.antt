-- Connections that are served over sockets (profile).
use Rattle.std.specs.Prelude.{◌≡◌, ◌⊎◌, ◌++◌, true, Option, is_some, Result, Ok, Err, codes}
use Rattle.std.specs.Io.KnownBytes.{Appends}
use Rattle.oci_types.specs.Text.{Text}
use Rattle.registry_model.specs.Keeping.{Kept}
use Rattle.registry_opening.specs.Openings.{Between, Opening, Spans}
use Rattle.registry_orders.specs.declared.failure.Failure.{Failure}
use Rattle.registry_orders.specs.declared.failure.Failure.TheVariants.{StorageFailure}
use Rattle.registry_orders.specs.Failures.{IsOfServing}
use Rattle.registry_orders.specs.Outputs.{Output, newline}

abbrev pub greeting : Text
greeting = codes "registry: listening" ++ newline

-- how serving ended: where it ended well, by an opening
abbrev pub EndsServing : {K : Type 0} → Result (Unit {0}) Failure → Option (Opening K) → Output → Type 0
EndsServing {K} (Ok v) last o = (is_some last ≡ true) × Appends o.held o.held' greeting
EndsServing {K} (Err f) last o = IsOfServing f

-- what is done over the last opening: the same; or the storage failed before any connection came, as it was
-- asked how many repositories there are
abbrev pub EndsAs : (Kept → Kept → Type 0) → Result (Unit {0}) Failure → Kept → Kept → Type 0
EndsAs Says result s s' = Says s s' ⊎ ((result ≡ Err StorageFailure) × (s'.spent ≡ true))

-- Connections were served over the registry at the path, which is opened again where its storage failed: all
-- of them; or the registry was not opened, or a socket or writing failed.
abbrev pub ServesAddress : {K : Type 0} → Between K → Text → (Kept → Kept → Type 0)
    → Result (Unit {0}) Failure → Output → Type 0
ServesAddress {K} b path Says result o =
    (spans : Spans b path Says (EndsAs Says result)) × EndsServing {K = K} result spans.last o
