-- What the clauses of statements, reads and writes say again and again, of a connection before a call and
-- after it. Each holds where the disk has returned what was written. What they say between transactions is in
-- Between.
use Rattle.std.specs.Prelude.{◌≡◌, ◌⊎◌, ⊤, Result, OnOk, IfOk}
use Rattle.sqlite_trees.specs.declared.store.Store.{Ghosts}
use Rattle.sqlite.specs.Order.{Row}
use Rattle.sqlite.specs.State.{State, HasCleanDisk, IsUnchanged, KeepsCommit, Survives}
use Rattle.sqlite.specs.Held.{Held, state}
use Rattle.registry_model.specs.World.{World}
use Rattle.store_statements.specs.Tables.{Tables}
use Rattle.store_contents.specs.Layouts.{Layout}
use Rattle.store_statements.specs.Held.{IsReady, Becomes, LeavesAsWas, held, world_in}

-- ---- what a clause may ask of the connection before the call
module _ {S : Type 0} (g : Ghosts S) (l : Layout) (conn : Held S) where
  -- this is so of its tables
  abbrev pub TablesHave : (Tables → Type 0) → Type 0
  TablesHave P = HasCleanDisk (state g conn) → P (held l (state g conn))

  -- this is so of its world
  abbrev pub WorldHas : (World → Type 0) → Type 0
  WorldHas P = HasCleanDisk (state g conn) → P (world_in l (state g conn))

module _ {S : Type 0} (g : Ghosts S) (old new : Held S) where
  -- ---- what every call leaves

  -- no fault is forgotten, whatever was committed
  abbrev pub Lasts : Type 0
  Lasts = Survives (state g old) (state g new) (λ _. ⊤)

  -- no fault is forgotten, and nothing was committed
  abbrev pub LastsUncommitted : Type 0
  LastsUncommitted = Survives (state g old) (state g new) (λ _. ⊥)

  -- it is as it was, or as a statement that failed leaves it
  abbrev pub LeavesEither : Type 0
  LeavesEither = HasCleanDisk (state g new) → (new ≡ old) ⊎ LeavesAsWas (state g old) (state g new)

-- ---- inside a transaction
module _ {S : Type 0} (g : Ghosts S) (l : Layout) (old new : Held S) where
  -- nothing was committed
  abbrev pub KeepsInside : Type 0
  KeepsInside = HasCleanDisk (state g new) → IsReady l (state g old) → KeepsCommit (state g old) (state g new)

  -- the value is this of the tables before
  abbrev pub FindsInside : {A E : Type 0} → Result A E → (Tables → A → Type 0) → Type 0
  FindsInside r P = HasCleanDisk (state g new) → IsReady l (state g old)
      → IfOk r (λ v. P (held l (state g old)) v)

  -- nothing changed
  abbrev pub ChangesNothingInside : {A E : Type 0} → Result A E → Type 0
  ChangesNothingInside r =
      HasCleanDisk (state g new) → IsReady l (state g old) → OnOk r (IsUnchanged (state g old) (state g new))

  -- the tables are this of those before
  abbrev pub Changes : {A E : Type 0} → Result A E → (Tables → Tables) → Type 0
  Changes r f =
      HasCleanDisk (state g new) → IsReady l (state g old)
      → OnOk r (Becomes l (state g new) (f (held l (state g old))))

  -- where the tables before have no such row, one of these columns comes
  abbrev pub Adds : {A E : Type 0} → Result A E → (Tables → Type 0)
      → (Layout → State → State → Row → Type 0) → Row → Type 0
  Adds r IsFresh Comes columns =
      HasCleanDisk (state g new) → IsReady l (state g old) → IsFresh (held l (state g old))
      → OnOk r (Comes l (state g old) (state g new) columns)

  -- the transaction goes on, and this is so of the tables before and after
  abbrev pub StepsInside : {A E : Type 0} → Result A E → (Tables → Tables → Type 0) → Type 0
  StepsInside r P =
      HasCleanDisk (state g new) → IsReady l (state g old)
      → OnOk r (IsReady l (state g new) × P (held l (state g old)) (held l (state g new)))
