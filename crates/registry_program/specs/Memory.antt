-- A server at an address over a registry in memory (profile).
use Rattle.std.specs.Prelude.{◌≡◌, ◌⊎◌, true, Result, Ok, Err, MatchResult}
use Rattle.std.specs.Io.KnownBytes.{Appends}
use Rattle.registry_model.specs.World.{World}
use Rattle.registry_model.specs.Keeping.{Kept, bare, state_of}
use Rattle.registry_model.specs.declared.settings.Settings.{Settings}
use Rattle.registry_loop.specs.Together.{ServesAll}
use Rattle.registry_orders.specs.declared.failure.Failure.{Failure}
use Rattle.registry_orders.specs.declared.failure.Failure.TheVariants.{OutOfMemory, StorageFailure}
use Rattle.registry_orders.specs.declared.limits.Limits.{Limits}
use Rattle.registry_orders.specs.declared.options.Setup.{Setup}
use Rattle.registry_orders.specs.Outputs.{Output, IsSilent}
use Rattle.registry_orders.specs.Setting.{world_by, world_from, SetsUp}
use Rattle.registry_tasks.specs.Sockets.{greeting}
use Rattle.registry_program.specs.Serving.{IsOfSockets}

-- nobody is served, for this reason, and nothing was written
abbrev pub ServesNone : Failure → Result (Unit {0}) Failure → Output → Type 0
ServesNone f result o = (result ≡ Err f) × IsSilent o

-- the greeting was written where all have come and gone; or memory was wanting, or a socket or writing failed
abbrev pub EndsGreeted : Result (Unit {0}) Failure → Output → Type 0
EndsGreeted (Ok v) o = Appends o.held o.held' greeting
EndsGreeted (Err f) o = IsOfSockets f

-- connections were served together with these settings and within these limits, from this world on; in memory
-- no storage fails
pub record ServesFrom (settings : Settings) (limits : Limits) (w : World) (result : Result (Unit {0}) Failure)
    (o : Output) : Type 0 where
  pub last : World
  pub serves : ServesAll settings limits.at_once limits.buffer (bare w) (bare last)
  pub ends : EndsGreeted result o

-- a registry in memory that begins so is served; or what it begins with is refused; or memory was wanting
abbrev pub ServesMemory : Settings → Limits → Setup → Result (Unit {0}) Failure → Output → Type 0
ServesMemory settings limits setup result o =
    ServesNone OutOfMemory result o
    ⊎ MatchResult (world_by setup) (λ w. ServesFrom settings limits w result o) (λ f. ServesNone f result o)

-- ---- the same over any keeper, whose storage may fail

-- connections were served from one state to another; or the storage failed
abbrev pub ServesOver : Settings → Limits → Result (Unit {0}) Failure → Output → Kept → Kept → Type 0
ServesOver settings limits result o s s' =
    (ServesAll settings limits.at_once limits.buffer s s' × EndsGreeted result o)
    ⊎ ((result ≡ Err StorageFailure) × (s'.spent ≡ true))

-- connections were served over a keeper of the type K, from what it kept first on: as far as the storage has
-- returned what was written
pub record ServesKept {K : Type 0} (is_honest : K → Type 0) (kept : K → Kept) (first : K)
    (settings : Settings) (limits : Limits) (result : Result (Unit {0}) Failure) (o : Output)
    : Type 0 where
  pub last : K
  pub honest : is_honest last → is_honest first
  pub says : is_honest last → ServesOver settings limits result o (kept first) (kept last)

-- a registry was set up over one from what that kept first on, or why not; and then connections were served
pub record ServesSetUp {K : Type 0} (is_honest : K → Type 0) (kept : K → Kept) (first : Kept)
    (settings : Settings) (limits : Limits) (setup : Setup) (result : Result (Unit {0}) Failure) (o : Output)
    : Type 0 where
  pub begun : Result (Unit {0}) Failure
  pub middle : K
  pub last : K
  pub says : is_honest last → SetsUp (world_from first.world setup) begun (state_of (kept middle))
      × MatchResult begun (λ v. ServesOver settings limits result o (kept middle) (kept last))
      (λ f. ServesNone f result o)
