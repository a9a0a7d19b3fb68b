-- What the program does, by its exit status.
use Rattle.std.specs.Prelude.{◌≡◌, ℕ, false, ◌⊎◌, Option, Result, Err, MatchResult}
use Rattle.std.specs.Io.KnownBytes.{Appends}
use Rattle.oci_types.specs.Text.{Text}
use Rattle.registry_model.specs.World.{World}
use Rattle.registry_model.specs.Keeping.{State, Kept, state_of}
use Rattle.registry_model.specs.declared.settings.Settings.{Settings}
use Rattle.registry_model.specs.Doing.{keeps}
use Rattle.registry_http.specs.Serving.{Serves}
use Rattle.registry_http.specs.declared.ending.End.{End}
use Rattle.registry_orders.specs.declared.failure.Failure.{Failure}
use Rattle.registry_orders.specs.declared.failure.Failure.TheVariants.{OutOfMemory, ConnectionFailure}
use Rattle.registry_orders.specs.declared.options.Setup.{Setup}
use Rattle.registry_orders.specs.Failures.{status_of}
use Rattle.registry_orders.specs.Outputs.{Output, AppendsPart, IsSilent}
use Rattle.registry_orders.specs.Setting.{world_by, world_from, SetsUp}
use Rattle.registry_conversation.specs.Accepting.{Streams, traffic_of}
use Rattle.registry_tasks.specs.Failures.{ended_as}
use Rattle.registry_tasks.specs.Telling.{TellsLine, SaysPlainly}

-- what the program read from standard input and wrote to standard output
abbrev pub streams : Option Text → Option Text → Option Text → Option Text → Streams
streams left left' held held' = record { left = left; left' = left'; held = held; held' = held' }

-- nothing was read from standard input, and nothing written to standard output
pub record IsUntouched (e : Streams) : Type 0 where
  pub left : e.left' ≡ e.left
  pub held : e.held' ≡ e.held

-- the program ended for this reason, and did nothing
abbrev pub GivesUp : Failure → ℕ → Streams → Type 0
GivesUp f status e = (status ≡ status_of f) × IsUntouched e

-- it ended for this reason, and did nothing
abbrev pub StopsFor : Failure → Result (Unit {0}) Failure → Streams → Type 0
StopsFor f ended e = (ended ≡ Err f) × IsUntouched e

-- one connection with these settings was served from this world on; in memory no storage fails
pub record ServesFrom (settings : Settings) (w : World) (ended : Result (Unit {0}) Failure)
    (e : Streams) : Type 0 where
  pub end : End
  pub last : State
  pub ends : ended ≡ ended_as end false
  pub serves : Serves end (traffic_of settings e (keeps w) last)

-- a registry over memory that begins so serves one connection; or what it begins with is refused; or memory
-- was wanting
abbrev pub ServesMemory : Settings → Setup → Result (Unit {0}) Failure → Streams → Type 0
ServesMemory settings setup ended e =
    StopsFor OutOfMemory ended e
    ⊎ MatchResult (world_by setup) (λ w. ServesFrom settings w ended e) (λ f. StopsFor f ended e)

-- the same, and the exit status and standard error say how it ended
abbrev pub RunsMemory : Settings → Setup → ℕ → Streams → Output → Type 0
RunsMemory settings setup status e errors = (ended : Result (Unit {0}) Failure)
    × ServesMemory settings setup ended e × SaysPlainly ended status errors

-- one connection was served over a registry that was opened, and how that ended; its storage may fail
abbrev pub ServesOne : Settings → Result (Unit {0}) Failure → Streams → Kept → Kept → Type 0
ServesOne settings ended e s s' =
    (end : End) × (ended ≡ ended_as end s'.spent)
    × Serves end (traffic_of settings e (state_of s) (state_of s'))

-- A registry over a keeper of the type K was set up from what it kept first, or why not; and then one
-- connection was served: as far as the storage has returned what was written.
pub record ServesSetUp {K : Type 0} (is_honest : K → Type 0) (kept : K → Kept) (first : Kept)
    (settings : Settings) (setup : Setup) (ended : Result (Unit {0}) Failure) (e : Streams) : Type 0 where
  pub begun : Result (Unit {0}) Failure
  pub middle : K
  pub last : K
  pub says : is_honest last → SetsUp (world_from first.world setup) begun (state_of (kept middle))
      × MatchResult begun (λ v. ServesOne settings ended e (kept middle) (kept last))
      (λ f. StopsFor f ended e)

-- help, the version or what is wrong with the words was told, on standard output only with status 0, and
-- nothing on standard error then; or writing it there failed, or memory was wanting, which is told
abbrev pub Tells : ℕ → Streams → Output → Type 0
Tells status e errors = (e.left' ≡ e.left)
    × ((((status ≡ 2) × (text : Text) × AppendsPart errors.held errors.held' text × (e.held' ≡ e.held))
    ⊎ ((status ≡ status_of OutOfMemory) × TellsLine OutOfMemory errors × (e.held' ≡ e.held)))
    ⊎ (((status ≡ 0) × (text : Text) × Appends e.held e.held' text × IsSilent errors)
    ⊎ ((status ≡ status_of ConnectionFailure) × (text : Text) × AppendsPart e.held e.held' text
    × TellsLine ConnectionFailure errors)))
