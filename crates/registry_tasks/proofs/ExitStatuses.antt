-- What exit statuses say of what was read and written, and of why the program ended.
use Rattle.std.proofs.Common.{arith, ◌≡◌, ◌⊎◌, ◌∙◌, ◌<◌, ◌≤◌, ◌≢◌, ℕ, false, Result, Ok, Err, inl, inr, refl, ap, subst}
use Rattle.std.specs.Prelude.{MatchResult, ⊤}
use Rattle.std.specs.Io.KnownBytes.{Appends}
use Rattle.oci_types.specs.Text.{Text}
use Rattle.registry_http.specs.declared.ending.End.{End}
use Rattle.registry_http.specs.declared.ending.End.TheVariants as ending
use Rattle.registry_model.specs.World.{World, no_world}
use Rattle.registry_model.specs.Keeping.{Kept, bare}
use Rattle.registry_model.specs.Doing.{keeps}
use Rattle.registry_maps.specs.declared.map_keeper.MapKeeper.{MapKeeper}
use Rattle.registry_maps.specs.Maps.{world_of, kept_of}
use Rattle.registry_orders.specs.declared.failure.Failure.{Failure}
use Rattle.registry_orders.specs.declared.failure.Failure.TheVariants as failure
use Rattle.registry_orders.specs.declared.options.Setup.{Setup}
use Rattle.registry_orders.specs.Failures.{status_of, status_if, IsOfConnection, IsOfOpening, IsOfServing}
use Rattle.registry_orders.specs.Outputs.{Output, AppendsPart, IsSilent}
use Rattle.registry_orders.specs.Setting.{world_by, world_from, SetsUp}
use Rattle.registry_tasks.specs.Checking.{IsOfCheck}
use Rattle.registry_tasks.specs.Failures.{ended_as}
use Rattle.registry_tasks.specs.Telling.{TellsLine}
use Rattle.registry_conversation.specs.Accepting.{Streams}
use Rattle.registry_tasks.proofs.SetupLemmas.{setup_fault, served, stopped}
use Rattle.registry_tasks.specs.Program.{StopsFor, IsUntouched, ServesFrom, ServesMemory, RunsMemory, ServesSetUp, ServesOne, Tells}
use Rattle.registry_model.specs.declared.settings.Settings.{Settings}

-- a failed connection is told by 3 or 4
pub connection_status : (f : Failure) → IsOfConnection f → 3 ≤ status_of f
connection_status failure.StorageFailure is = omega arith
connection_status failure.ConnectionFailure is = omega arith
connection_status failure.NoRepo is = absurd is
connection_status failure.NoGrant is = absurd is
connection_status failure.RepoThere is = absurd is
connection_status failure.InvalidName is = absurd is
connection_status failure.InvalidToken is = absurd is
connection_status failure.InvalidOptions is = absurd is
connection_status failure.OutOfMemory is = absurd is
connection_status (failure.Schema n) is = absurd is
connection_status failure.NotARegistry is = absurd is
connection_status failure.Damaged is = absurd is

-- and so is an address that is not served
pub serving_status : (f : Failure) → IsOfServing f → 3 ≤ status_of f
serving_status failure.ConnectionFailure is = omega arith
serving_status failure.StorageFailure is = omega arith
serving_status failure.OutOfMemory is = omega arith
serving_status (failure.Schema n) is = omega arith
serving_status failure.NotARegistry is = omega arith
serving_status failure.Damaged is = absurd is
serving_status failure.NoRepo is = absurd is
serving_status failure.NoGrant is = absurd is
serving_status failure.RepoThere is = absurd is
serving_status failure.InvalidName is = absurd is
serving_status failure.InvalidToken is = absurd is
serving_status failure.InvalidOptions is = absurd is

-- and so is a check that does not end well
pub check_status : (f : Failure) → IsOfCheck f → 3 ≤ status_of f
check_status failure.Damaged is = omega arith
check_status failure.OutOfMemory is = omega arith
check_status failure.StorageFailure is = omega arith
check_status failure.ConnectionFailure is = omega arith
check_status (failure.Schema n) is = absurd is
check_status failure.NotARegistry is = absurd is
check_status failure.NoRepo is = absurd is
check_status failure.NoGrant is = absurd is
check_status failure.RepoThere is = absurd is
check_status failure.InvalidName is = absurd is
check_status failure.InvalidToken is = absurd is
check_status failure.InvalidOptions is = absurd is

pub serving_of_opening : (f : Failure) → IsOfOpening f → IsOfServing f
serving_of_opening failure.StorageFailure is = tt
serving_of_opening failure.OutOfMemory is = tt
serving_of_opening (failure.Schema n) is = tt
serving_of_opening failure.NotARegistry is = tt
serving_of_opening failure.Damaged is = is
serving_of_opening failure.ConnectionFailure is = tt
serving_of_opening failure.NoRepo is = is
serving_of_opening failure.NoGrant is = is
serving_of_opening failure.RepoThere is = is
serving_of_opening failure.InvalidName is = is
serving_of_opening failure.InvalidToken is = is
serving_of_opening failure.InvalidOptions is = is

-- and so they do where something is told of the words
pub untouched_telling : (status : ℕ) (e : Streams) (errors : Output) → Tells status e errors → 0 < status → status < 4 → IsUntouched e
untouched_telling status e errors t more less = go t.1
  where
    go : (((status ≡ 2) × (text : Text) × AppendsPart errors.held errors.held' text × (e.held' ≡ e.held)) ⊎ ((status ≡ 3) × TellsLine failure.OutOfMemory errors × (e.held' ≡ e.held)))
        ⊎ (((status ≡ 0) × (text : Text) × Appends e.held e.held' text × IsSilent errors) ⊎ ((status ≡ 4) × (text : Text) × AppendsPart e.held e.held' text × TellsLine failure.ConnectionFailure errors)) → IsUntouched e
    go (inl (inl h)) = record { left = t.0; held = h.3 }
    go (inl (inr h)) = record { left = t.0; held = h.2 }
    go (inr (inl z)) = absurd (let x = z.0 in omega arith)
    go (inr (inr f)) = absurd (let x = f.0 in omega arith)

-- ---- status 2 is told of words alone

pub opening_status : (f : Failure) → IsOfOpening f → 3 ≤ status_of f
opening_status f is = serving_status f (serving_of_opening f is)

pub opening_read : (f : Failure) → IsOfOpening f → status_of f ≢ 2
opening_read f is two = let more : 3 ≤ status_of f = serving_status f (serving_of_opening f is) in omega arith

module _ (settings : Settings) where
  -- maps that began with nothing were set up
  pub set_up_served : (setup : Setup) (ended : Result (Unit {0}) Failure) (e : Streams) (first : Kept) → first ≡ bare no_world
      → ServesSetUp {K = MapKeeper} (λ k. ⊤) (λ k. kept_of k.repos k.grants) first settings setup ended e → ServesMemory settings setup ended e
  set_up_served setup ended e first empty s =
      go (world_of s.middle.repos s.middle.grants) (world_of s.last.repos s.last.grants) s.begun (s.says tt).0 (s.says tt).1
    where
      go : (w w' : World) (begun : Result (Unit {0}) Failure) → SetsUp (world_from first.world setup) begun (keeps w)
          → MatchResult begun (λ v. ServesOne settings ended e (bare w) (bare w')) (λ f. StopsFor f ended e) → ServesMemory settings setup ended e
      go w w' (Ok v) made serves =
          served (λ w. ServesFrom settings w ended e) (λ f. StopsFor f ended e) setup w (subst (λ (x : Kept). world_from x.world setup ≡ Ok w) empty made)
          (record { end = serves.0; last = keeps w'; ends = serves.1; serves = serves.2 })
      go w w' (Err f) made g =
          stopped (λ w. ServesFrom settings w ended e) (λ f. StopsFor f ended e) setup f (keeps w)
          (subst (λ (x : Kept). SetsUp (world_from x.world setup) (Err f) (keeps w)) empty made) refl g

  -- a connection over memory ends with 0 or 4
  after_serving : (end : End) (ended : Result (Unit {0}) Failure) (status : ℕ) → ended ≡ ended_as end false → status ≡ status_if ended
      → (status ≡ 0) ⊎ (status ≡ 4)
  after_serving ending.Closed ended status i told = inl (told ∙ ap status_if i)
  after_serving ending.Cut ended status i told = inl (told ∙ ap status_if i)
  after_serving (ending.Refused r) ended status i told = inl (told ∙ ap status_if i)
  after_serving ending.ReadFailed ended status i told = inr (told ∙ ap status_if i)
  after_serving (ending.WriteFailed n) ended status i told = inr (told ∙ ap status_if i)

  -- over memory, status 1, 2 and 3 say that nothing was done
  pub untouched_memory : (setup : Setup) (status : ℕ) (e : Streams) (errors : Output) → RunsMemory settings setup status e errors → 0 < status → status < 4 → IsUntouched e
  untouched_memory setup status e errors p more less = go p.1
    where
      by : (r : Result World Failure) → MatchResult r (λ w. ServesFrom settings w p.0 e) (λ f. StopsFor f p.0 e) → IsUntouched e
      by (Ok w) s = absurd (elim (after_serving s.end p.0 status s.ends p.2.0) [ inl z ↦ omega arith | inr z ↦ omega arith ])
      by (Err f) g = g.1

      go : ServesMemory settings setup p.0 e → IsUntouched e
      go (inl g) = g.1
      go (inr m) = by (world_by setup) m

  pub memory_read : (setup : Setup) (status : ℕ) (e : Streams) (errors : Output) → RunsMemory settings setup status e errors → status ≢ 2
  memory_read setup status e errors p two = all p.1
    where
      go : (r : Result World Failure) → ((f : Failure) → r ≡ Err f → status_of f ≡ 1)
          → MatchResult r (λ w. ServesFrom settings w p.0 e) (λ f. StopsFor f p.0 e) → ⊥
      go (Ok w) fault s = elim (after_serving s.end p.0 status s.ends p.2.0) [ inl z ↦ omega arith | inr z ↦ omega arith ]
      go (Err f) fault g = let one : status ≡ 1 = p.2.0 ∙ ap status_if g.0 ∙ fault f refl in omega arith

      all : ServesMemory settings setup p.0 e → ⊥
      all (inl g) = let three : status ≡ 3 = p.2.0 ∙ ap status_if g.0 in omega arith
      all (inr m) = go (world_by setup) (setup_fault setup) m
