-- What is done over a registry in memory, and by which exit status it is told.
use Rattle.std.proofs.Common.{arith, ◌≡◌, ◌⊎◌, ◌∙◌, ◌<◌, ◌≤◌, ◌≢◌, ℕ, true, false, Result, Ok, Err, inl, inr, refl, ap, subst}
use Rattle.std.specs.Prelude.{MatchResult, Bool, Option, ⊤}
use Rattle.oci_types.specs.Text.{Text}
use Rattle.registry_model.specs.World.{World, no_world}
use Rattle.registry_model.specs.Keeping.{Kept, bare}
use Rattle.registry_model.specs.Doing.{keeps}
use Rattle.registry_model.specs.declared.settings.Settings.{Settings}
use Rattle.registry_maps.specs.declared.map_keeper.MapKeeper.{MapKeeper}
use Rattle.registry_maps.specs.Maps.{world_of, kept_of}
use Rattle.registry_orders.specs.declared.failure.Failure.{Failure}
use Rattle.registry_orders.specs.declared.failure.Failure.TheVariants as failure
use Rattle.registry_orders.specs.declared.limits.Limits.{Limits}
use Rattle.registry_orders.specs.declared.options.Setup.{Setup}
use Rattle.registry_orders.specs.Failures.{status_of, status_if}
use Rattle.registry_orders.specs.Outputs.{Output, output, IsSilent}
use Rattle.registry_orders.specs.Setting.{world_by, world_from, SetsUp}
use Rattle.registry_tasks.proofs.SetupLemmas.{setup_fault, served, stopped}
use Rattle.registry_program.specs.declared.serving.Stop.{Stop}
use Rattle.registry_program.specs.declared.serving.Stop.TheVariants.{Over, Spent, Failed}
use Rattle.registry_program.specs.Serving.{IsOfSockets, ServesSpan, GreetsFirst}
use Rattle.registry_program.specs.Memory.{ServesNone, EndsGreeted, ServesFrom, ServesMemory, ServesOver, ServesSetUp}
use Rattle.registry_program.specs.Running.{RunsMemoryServer}
use Rattle.registry_program.proofs.ServingLemmas.{none_served}

-- ---- what is done over one keeper, by how it ended

module _ (settings : Settings) (limits : Limits) (s s' : Kept) (before after : Option Text) where
  abbrev Done : Result (Unit {0}) Failure → Type 0
  Done result = ServesOver settings limits result (output before after) s s'

  pub over_done : (v : Unit {0}) (stop : Stop) (greeted : Bool) → stop ≡ Over → ServesSpan settings limits stop s s'
      → GreetsFirst false stop greeted before after → Done (Ok v)
  over_done v stop greeted e spans greets =
      inl (subst (λ (x : Stop). ServesSpan settings limits x s s') e spans, (subst (λ (x : Stop). GreetsFirst false x greeted before after) e greets).1)

  pub spent_done : (stop : Stop) → stop ≡ Spent → ServesSpan settings limits stop s s' → Done (Err failure.StorageFailure)
  spent_done stop e spans = inr (refl, (subst (λ (x : Stop). ServesSpan settings limits x s s') e spans).1)

  pub failed_done : (f : Failure) (stop : Stop) → stop ≡ Failed f → ServesSpan settings limits stop s s' → Done (Err f)
  failed_done f stop e spans = go (subst (λ (x : Stop). ServesSpan settings limits x s s') e spans)
    where
      go : ServesSpan settings limits (Failed f) s s' → Done (Err f)
      go (inl x) = inl x
      go (inr x) = inr (ap Err x.0, x.1)

pub nobody_came : (settings : Settings) (limits : Limits) (f : Failure) (s : Kept) (o : Output) → IsOfSockets f → ServesOver settings limits (Err f) o s s
nobody_came settings limits f s o is = inl (none_served settings limits.at_once limits.buffer s, is)

-- ---- maps that began with nothing were set up

module _ (settings : Settings) (limits : Limits) (setup : Setup) (result : Result (Unit {0}) Failure) (o : Output) where
  pub set_up_served : (first : Kept) → first ≡ bare no_world
      → ServesSetUp {K = MapKeeper} (λ k. ⊤) (λ k. kept_of k.repos k.grants) first settings limits setup result o → ServesMemory settings limits setup result o
  set_up_served first empty s =
      go (world_of s.middle.repos s.middle.grants) (world_of s.last.repos s.last.grants) s.begun (s.says tt).0 (s.says tt).1
    where
      over : (w w' : World) → world_by setup ≡ Ok w → ServesOver settings limits result o (bare w) (bare w') → ServesMemory settings limits setup result o
      over w w' made (inl x) =
          served (λ w. ServesFrom settings limits w result o) (λ f. ServesNone f result o) setup w made (record { last = w'; serves = x.0; ends = x.1 })
      over w w' made (inr x) = absurd (let spent : false ≡ true = x.1 in cc)

      go : (w w' : World) (begun : Result (Unit {0}) Failure) → SetsUp (world_from first.world setup) begun (keeps w)
          → MatchResult begun (λ v. ServesOver settings limits result o (bare w) (bare w')) (λ f. ServesNone f result o) → ServesMemory settings limits setup result o
      go w w' (Ok v) made serves = over w w' (subst (λ (x : Kept). world_from x.world setup ≡ Ok w) empty made) serves
      go w w' (Err f) made none =
          stopped (λ w. ServesFrom settings limits w result o) (λ f. ServesNone f result o) setup f (keeps w)
          (subst (λ (x : Kept). SetsUp (world_from x.world setup) (Err f) (keeps w)) empty made) refl none

-- ---- the exit status

sockets_status : (f : Failure) → IsOfSockets f → 3 ≤ status_of f
sockets_status failure.OutOfMemory is = omega arith
sockets_status failure.ConnectionFailure is = omega arith
sockets_status failure.StorageFailure is = absurd is
sockets_status failure.NoRepo is = absurd is
sockets_status failure.NoGrant is = absurd is
sockets_status failure.RepoThere is = absurd is
sockets_status failure.InvalidName is = absurd is
sockets_status failure.InvalidToken is = absurd is
sockets_status failure.InvalidOptions is = absurd is
sockets_status (failure.Schema n) is = absurd is
sockets_status failure.NotARegistry is = absurd is
sockets_status failure.Damaged is = absurd is

greeted_status : (result : Result (Unit {0}) Failure) (status : ℕ) (o : Output) → status ≡ status_if result → EndsGreeted result o → (status ≡ 0) ⊎ (3 ≤ status)
greeted_status (Ok v) status o told ends = inl told
greeted_status (Err f) status o told ends = inr (let most = sockets_status f ends in rw told most)

module _ (settings : Settings) (limits : Limits) (setup : Setup) (status : ℕ) (o : Output) (runs : RunsMemoryServer settings limits setup status o) where
  -- status 1 and 2 say that nothing was written
  pub memory_silent : 0 < status → status < 3 → IsSilent o
  memory_silent more less = go runs.2
    where
      by : (r : Result World Failure) → MatchResult r (λ w. ServesFrom settings limits w runs.0 o) (λ f. ServesNone f runs.0 o) → IsSilent o
      by (Ok w) s = absurd (elim (greeted_status runs.0 status o runs.1 s.ends) [ inl z ↦ omega arith | inr z ↦ omega arith ])
      by (Err f) none = none.1

      go : ServesMemory settings limits setup runs.0 o → IsSilent o
      go (inl none) = none.1
      go (inr x) = by (world_by setup) x

  pub memory_read : status ≢ 2
  memory_read two = all runs.2
    where
      go : (r : Result World Failure) → ((f : Failure) → r ≡ Err f → status_of f ≡ 1)
          → MatchResult r (λ w. ServesFrom settings limits w runs.0 o) (λ f. ServesNone f runs.0 o) → ⊥
      go (Ok w) fault s = elim (greeted_status runs.0 status o runs.1 s.ends) [ inl z ↦ omega arith | inr z ↦ omega arith ]
      go (Err f) fault none = let one : status ≡ 1 = runs.1 ∙ ap status_if none.0 ∙ fault f refl in omega arith

      all : ServesMemory settings limits setup runs.0 o → ⊥
      all (inl none) = let three : status ≡ 3 = runs.1 ∙ ap status_if none.0 in omega arith
      all (inr x) = go (world_by setup) (setup_fault setup) x
