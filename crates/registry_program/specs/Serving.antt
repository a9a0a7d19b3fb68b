-- What is done over one opening of a registry that is served at an address.
use Rattle.std.specs.Prelude.{◌≡◌, ◌⊎◌, Bool, true, false, Option, is_some, Result, Ok, Err, ⊤}
use Rattle.std.specs.Io.KnownBytes.{Appends}
use Rattle.oci_types.specs.Text.{Text}
use Rattle.registry_model.specs.Keeping.{Kept}
use Rattle.registry_model.specs.declared.settings.Settings.{Settings}
use Rattle.registry_opening.specs.Openings.{Between, Opening, Spans}
use Rattle.registry_orders.specs.declared.failure.Failure.{Failure}
use Rattle.registry_orders.specs.declared.failure.Failure.TheVariants.{OutOfMemory, StorageFailure, ConnectionFailure}
use Rattle.registry_orders.specs.declared.limits.Limits.{Limits}
use Rattle.registry_orders.specs.Failures.{IsOfServing}
use Rattle.registry_loop.specs.Together.{ServesAll}
use Rattle.registry_tasks.specs.Sockets.{greeting, EndsAs}
use Rattle.registry_program.specs.declared.serving.Stop.{Stop}
use Rattle.registry_program.specs.declared.serving.Stop.TheVariants.{Over, Spent, Failed}

-- why nobody is served, or nobody any more, though the storage goes on: memory is wanting, or a socket or
-- writing failed
abbrev pub IsOfSockets : Failure → Type 0
IsOfSockets OutOfMemory = ⊤
IsOfSockets ConnectionFailure = ⊤
IsOfSockets _ = ⊥

-- Connections were served together, from none on, until all had gone or the storage failed; or nobody is
-- served, since that failed as it was asked how many repositories there are.
abbrev pub ServesSpan : Settings → Limits → Stop → Kept → Kept → Type 0
ServesSpan settings limits Over s s' = ServesAll settings limits.at_once limits.buffer s s'
ServesSpan settings limits Spent s s' =
    ServesAll settings limits.at_once limits.buffer s s' × (s'.spent ≡ true)
ServesSpan settings limits (Failed f) s s' =
    (ServesAll settings limits.at_once limits.buffer s s' × IsOfSockets f)
    ⊎ ((f ≡ StorageFailure) × (s'.spent ≡ true))

abbrev pub IsStopped : Stop → Type 0
IsStopped (Failed f) = IsOfServing f
IsStopped _ = ⊤

-- before anybody is served: nothing is done; or the storage failed, as it was asked how many repositories
-- there are
abbrev pub Begins : Result (Unit {0}) Failure → Kept → Kept → Type 0
Begins (Ok v) s s' = s' ≡ s
Begins (Err f) s s' = ((s' ≡ s) × IsOfSockets f) ⊎ ((f ≡ StorageFailure) × (s'.spent ≡ true))

-- the greeting is written, unless it was before
abbrev pub Greets : Bool → Option Text → Option Text → Type 0
Greets true held held' = held' ≡ held
Greets false held held' = Appends held held' greeting

-- the greeting was written before anybody was served
abbrev pub GreetsFirst : Bool → Stop → Bool → Option Text → Option Text → Type 0
GreetsFirst before (Failed f) after held held' = IsOfServing f
GreetsFirst before _ after held held' = (after ≡ true) × Greets before held held'

-- where serving ended well, it is by an opening
abbrev pub IsOfLast : {K : Type 0} → Result (Unit {0}) Failure → Option (Opening K) → Type 0
IsOfLast {K} (Ok v) last = is_some last ≡ true
IsOfLast {K} (Err f) last = ⊤

-- this was done over the registry at the path, which is opened again where its storage failed
abbrev pub ServesSpans : {K : Type 0} → Between K → Text → (Kept → Kept → Type 0)
    → Result (Unit {0}) Failure → Type 0
ServesSpans {K} b path Says result =
    (spans : Spans b path Says (EndsAs Says result)) × IsOfLast {K = K} result spans.last
