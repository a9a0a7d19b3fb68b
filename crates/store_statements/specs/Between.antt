-- What the clauses of statements, reads and writes say between transactions, of a connection before a call
-- and after it. Each holds where the disk has returned what was written and the connection was settled: any
-- other may be handed in, and of it nothing is said. They are said of a layout: most of every one.
use Rattle.std.specs.Prelude.{◌≡◌, ◌⊎◌, false, Result, Err, OnOk, OnErr, IfOk, IfErr}
use Rattle.sqlite_trees.specs.declared.store.Store.{Ghosts}
use Rattle.sqlite.specs.Effect.{Database}
use Rattle.sqlite.specs.Tree.{Trees}
use Rattle.sqlite.specs.State.{State, HasCleanDisk, IsUnchanged}
use Rattle.sqlite.specs.Held.{Held, state}
use Rattle.oci_types.specs.declared.fault.Fault.{Fault}
use Rattle.oci_types.specs.declared.fault.Fault.TheVariants.{Memory}
use Rattle.registry_model.specs.World.{World}
use Rattle.store_contents.specs.Layouts.{Layout}
use Rattle.store_statements.specs.Tables.{Tables}
use Rattle.store_statements.specs.Held.{IsSettled, StaysSettled, LeavesAsWas, Commits, SettlesOn, IsBack, IsKept, held, with_trees, reopened, world_in, is_storage}

-- Of each outcome of a crash, opened again: this is told, and it is the one or the other.
abbrev pub Outcomes : Database → State → (State → Type 0) → (State → Type 0) → (State → Type 0) → Type 0
Outcomes was new Told Same Made =
    (db : Trees) → new.may_leave db
    → Told (reopened (with_trees was db))
    × (Same (reopened (with_trees was db)) ⊎ Made (reopened (with_trees was db)))

module _ {S : Type 0} (g : Ghosts S) (l : Layout) (old new : Held S) where
  -- the value is this of the tables before
  abbrev pub Finds : {A E : Type 0} → Result A E → (Tables → A → Type 0) → Type 0
  Finds r P = HasCleanDisk (state g new) → IsSettled l (state g old)
      → IfOk r (λ v. P (held l (state g old)) v)

  -- the value is this of the world before
  abbrev pub Tells : {A E : Type 0} → Result A E → (World → A → Type 0) → Type 0
  Tells r P = HasCleanDisk (state g new) → IsSettled l (state g old)
      → IfOk r (λ v. P (world_in l (state g old)) v)

  -- nothing changed
  abbrev pub ChangesNothing : {A E : Type 0} → Result A E → Type 0
  ChangesNothing r =
      HasCleanDisk (state g new) → IsSettled l (state g old)
      → OnOk r (IsUnchanged (state g old) (state g new))

  -- a failure left what was there, or what was committed last
  abbrev pub FailsAsWas : {A E : Type 0} → Result A E → Type 0
  FailsAsWas r =
      HasCleanDisk (state g new) → IsSettled l (state g old)
      → IfErr r (λ _. LeavesAsWas (state g old) (state g new))

  -- unless the storage failed, it is settled, with the same database
  abbrev pub Stays : {A : Type 0} → Result A Fault → Type 0
  Stays r =
      HasCleanDisk (state g new) → IsSettled l (state g old) → is_storage r ≡ false
      → StaysSettled l (state g old) (state g new)

  -- where memory was wanting, it is settled, with the same database
  abbrev pub StaysOnMemory : {A : Type 0} → Result A Fault → Type 0
  StaysOnMemory r =
      HasCleanDisk (state g new) → IsSettled l (state g old) → r ≡ Err Memory
      → StaysSettled l (state g old) (state g new)

  -- it is settled, and its world is this of the one before
  abbrev pub MakesWorld : {A E : Type 0} → Result A E → (World → World) → Type 0
  MakesWorld r f =
      HasCleanDisk (state g new) → IsSettled l (state g old)
      → OnOk r (SettlesOn l (state g new) (f (world_in l (state g old))))

  -- it was committed, and this is so of the tables before and after
  abbrev pub CommitsStep : {A E : Type 0} → Result A E → (Tables → Tables → Type 0) → Type 0
  CommitsStep r P =
      HasCleanDisk (state g new) → IsSettled l (state g old)
      → OnOk r (Commits l (state g new) (held l (state g new))
      × P (held l (state g old)) (held l (state g new)))

  -- this is so of the tables before and after
  abbrev pub Relates : {A E : Type 0} → Result A E → (Tables → Tables → Type 0) → Type 0
  Relates r P =
      HasCleanDisk (state g new) → IsSettled l (state g old)
      → OnOk r (P (held l (state g old)) (held l (state g new)))

  -- this is so of the answer, and of the tables before and after
  abbrev pub RelatesBy : {A E : Type 0} → Result A E → (A → Tables → Tables → Type 0) → Type 0
  RelatesBy r P =
      HasCleanDisk (state g new) → IsSettled l (state g old)
      → IfOk r (λ v. P v (held l (state g old)) (held l (state g new)))

  -- a failure changed nothing, where the connection is open
  abbrev pub GoesBack : {A E : Type 0} → Result A E → Type 0
  GoesBack r = HasCleanDisk (state g new) → IsSettled l (state g old)
      → OnErr r (IsBack (state g old) (state g new))

  -- whatever came of it, where the connection is open nothing changed, and a crash leaves what was there
  abbrev pub Keeps : Type 0
  Keeps = HasCleanDisk (state g new) → IsSettled l (state g old) → IsKept (state g old) (state g new)

  -- its tables were committed, and this is so of those before and of them
  abbrev pub CommitsFrom : (Tables → Tables → Type 0) → State → Type 0
  CommitsFrom P s = Commits l s (held l s) × P (held l (state g old)) (held l s)

  -- A crash leaves the database as it was, or such tables; where it was done, such.
  abbrev pub CrashMakes : {A E : Type 0} → Result A E → (Tables → Tables → Type 0) → Type 0
  CrashMakes r P =
      HasCleanDisk (state g new) → IsSettled l (state g old)
      → Outcomes (state g old).now (state g new) (λ s. OnOk r (CommitsFrom P s))
      (λ s. s.now ≡ (state g old).now) (CommitsFrom P)

  -- A crash leaves the world as it was, or this of the one before; where it was done, this.
  abbrev pub CrashLeaves : {A E : Type 0} → Result A E → (World → World) → Type 0
  CrashLeaves r f =
      HasCleanDisk (state g new) → IsSettled l (state g old)
      → Outcomes (state g old).now (state g new) (λ s. OnOk r (SettlesOn l s (f (world_in l (state g old)))))
      (λ s. SettlesOn l s (world_in l (state g old))) (λ s. SettlesOn l s (f (world_in l (state g old))))
