-- A change is a transaction of its own: what is said of its work is said of what it leaves.
use Rattle.std.proofs.Common.{◌≡◌, ◌⊎◌, inl, inr, true, Ok, Err, Result, OnOk, refl}
use Rattle.std.specs.Prelude.{IsOk}
use Rattle.sqlite_trees.specs.declared.store.Store.{Ghosts}
use Rattle.sqlite.specs.Effect.{Database}
use Rattle.sqlite.specs.Tree.{Trees}
use Rattle.sqlite.specs.State.{State, HasCleanDisk, KeepsCommit}
use Rattle.sqlite.specs.Held.{Held, state}
use Rattle.oci_types.specs.declared.fault.Fault.{Fault}
use Rattle.registry_model.specs.World.{World}
use Rattle.store_contents.specs.Layouts.{Layout}
use Rattle.store_statements.specs.Tables.{Tables}
use Rattle.store_statements.specs.Registry.{IsRegistry}
use Rattle.store_statements.specs.World.{world_of}
use Rattle.store_statements.specs.Between.{CommitsStep, CrashLeaves, CrashMakes, GoesBack, MakesWorld}
use Rattle.store_statements.specs.Clauses.{Lasts, LastsUncommitted, TablesHave}
use Rattle.store_statements.specs.Ends.{Ends}
use Rattle.store_statements.specs.Held.{IsReady, IsSettled, Commits, SettlesOn, HoldsTables, held, tables_in}
use Rattle.store_statements.specs.StepsFrom.{StepsFrom}
use Rattle.store_writes.specs.Worlds.{StandsFor}
use Rattle.store_statements.proofs.Alone.{at_begin, before_begin, commits_as, committed_so, crash_left, went_back, lasts, less}
use Rattle.store_statements.proofs.CleanBefore.{was_clean}
use Rattle.store_statements.proofs.Crashes.{crash_made}
use Rattle.store_statements.proofs.Transactions.{makes, ready, registry}

-- ---- from the work to the transaction

so_done : {A E P : Type 0} (d : Result A E) → IsOk d → OnOk d P → P
so_done (Ok x) is p = p
so_done (Err e) is p = absurd cc

module _ {l : Layout} {S : Type 0} {g : Ghosts S} (old : Held S) {first mid new : Held S} {A B : Type 0} {done : Result A Fault} {r : Result B Fault}
    (begun : first ≡ record old { in_transaction = true }) (ends : Ends g mid new done r) (Q : Tables → Type 0) (P : Tables → Tables → Type 0)
    (work : StepsFrom g l first mid done Q P) (kept : HasCleanDisk (state g mid) → IsReady l (state g first) → Q (held l (state g first)) → KeepsCommit (state g first) (state g mid))
    (worked : LastsUncommitted g first mid) where
  asked : TablesHave g l old Q → HasCleanDisk (state g mid) → Q (held l (state g first))
  asked free late = at_begin old begun ends (λ (s : State). Q (held l s)) (free (before_begin old begun ends HasCleanDisk (was_clean worked late)))

  begins : IsSettled l (state g old) → IsReady l (state g first)
  begins is = at_begin old begun ends (IsReady l) (ready (state g old) is)

  done_so : TablesHave g l old Q → HasCleanDisk (state g new) → IsSettled l (state g old) → OnOk done (IsReady l (state g mid) × P (held l (state g old)) (held l (state g mid)))
  done_so free clean is =
      let late = was_clean ends.survives clean in
      before_begin old begun ends (λ (s : State). OnOk done (IsReady l (state g mid) × P (held l s) (held l (state g mid)))) (work late (begins is) (asked free late))

  pub alone_asking : (TablesHave g l old Q → CommitsStep g l old new r P) × (TablesHave g l old Q → GoesBack g l old new r) × Lasts g old new
  alone_asking = (
    λ free clean is. committed_so old begun ends l (P (held l (state g old))) clean (done_so free clean is),
    λ free clean is. let late = was_clean ends.survives clean in went_back old begun ends (kept late (begins is) (asked free late)) clean is (less done (λ h. h.0) (done_so free clean is)),
    lasts old begun ends worked,
  )

  -- a crash leaves what it left before, or what the work made
  pub alone_left : TablesHave g l old Q → HasCleanDisk (state g new) → IsSettled l (state g old) → (db : Trees) → (state g new).may_leave db
      → (state g old).may_leave db ⊎ ((d : Database) × (db ≡ d.trees) × HoldsTables l d × P (held l (state g old)) (tables_in l d))
  alone_left free clean is db may = elim (crash_left old begun ends worked clean db may) [
    | inl earlier ↦ inl earlier
    | inr it ↦ let so = so_done done it.0 (done_so free clean is) in inr ((state g mid).now, it.1, so.0.holds, so.1)
  ]

-- ---- from the tables to the world

module _ {S : Type 0} (g : Ghosts S) (old new : Held S) {A : Type 0} (r : Result A Fault) (w : World → World) where
  pub made_step : {l : Layout} → (P : Tables → Tables → Type 0) → CommitsStep g l old new r P → ((t u : Tables) → IsRegistry t → P t u → (world_of u ≡ w (world_of t)) × IsRegistry u) → MakesWorld g l old new r w
  made_step {l} P made so clean is =
      less r (λ it. makes (state g new) (held l (state g new)) _ it.0 (so (held l (state g old)) (held l (state g new)) (registry (state g old) is) it.1)) (made clean is)

  pub made_tables : {l : Layout} → (f : Tables → Tables) → CommitsStep g l old new r (λ t u. u ≡ f t) → ((t : Tables) → IsRegistry t → (world_of (f t) ≡ w (world_of t)) × IsRegistry (f t)) → MakesWorld g l old new r w
  made_tables {l} f made so clean is = less r (λ it. makes (state g new) _ _ (commits_as (state g new) _ it.0 it.1) (so (held l (state g old)) (registry (state g old) is))) (made clean is)

-- ---- the same of a crash

module _ {S : Type 0} (g : Ghosts S) (old new : Held S) {A : Type 0} (r : Result A Fault) (w : World → World) where
  pub crash_step : {l : Layout} → (P : Tables → Tables → Type 0) → CrashMakes g l old new r P → ((t u : Tables) → IsRegistry t → P t u → (world_of u ≡ w (world_of t)) × IsRegistry u) → CrashLeaves g l old new r w
  crash_step {l} P crash so clean is =
      crash_made g old new w old P is (is, refl) (λ s it. makes s (held l s) _ it.0 (so (held l (state g old)) (held l s) (registry (state g old) is) it.1)) r r (λ X x. x) (crash clean is)

  pub crash_tables : {l : Layout} → (f : Tables → Tables) → CrashMakes g l old new r (λ t u. u ≡ f t) → ((t : Tables) → IsRegistry t → (world_of (f t) ≡ w (world_of t)) × IsRegistry (f t)) → CrashLeaves g l old new r w
  crash_tables {l} f crash so clean is =
      crash_made g old new w old (λ t u. u ≡ f t) is (is, refl) (λ s it. makes s (f (held l (state g old))) (w (world_of (held l (state g old)))) (commits_as s (f (held l (state g old))) it.0 it.1) (so (held l (state g old)) (registry (state g old) is))) r r (λ X x. x) (crash clean is)

pub stands : {l : Layout} → (s : State) (w : World) → Commits l s (held l s) → StandsFor (held l s) w → SettlesOn l s w
stands {l} s w c it = makes s (held l s) w c (it.1, record { tables = c.holds.tables; agree = it.0 })
