-- What is read of rows that a query showed, and what a caller is told of it.
use Rattle.std.specs.Prelude.{◌≡◌, List, false, Result, Ok, Err, OnOk, OnErr, IfOk, IsOk, IsErr, Vec}
use Rattle.std.specs.declared.alloc.Global.{Global}
use Rattle.sqlite_trees.specs.declared.store.Store.{Ghosts}
use Rattle.sqlite.specs.Order.{Row}
use Rattle.sqlite.specs.State.{HasCleanDisk, Shows}
use Rattle.sqlite.specs.Held.{Held, state}
use Rattle.sqlite.specs.declared.error.Error.{Error}
use Rattle.oci_types.specs.declared.fault.Fault.{Fault}
use Rattle.oci_types.specs.declared.fault.Fault.TheVariants.{Memory}
use Rattle.store_statements.specs.Clauses.{LastsUncommitted, LeavesEither}

-- what is read is this of the rows, and where they were not shown nothing is
pub record IsRead {A : Type 0} (rows : Result (Vec Row Global) Error) (read : Result A Fault)
    (P : List Row → A → Type 0) : Type 0 where
  pub shown : OnOk read (IsOk rows)
  pub value : IfOk rows (λ xs. IfOk read (P xs.items))

-- The connection was this when the value was found, or was not, and is that when it is told.
pub record Checked {S : Type 0} (g : Ghosts S) (mid new : Held S) {A : Type 0} (found r : Result A Fault)
    : Type 0 where
  pub told : IfOk r (λ v. (found ≡ Ok v) × (new ≡ mid))
  -- nothing that was found, or done, is told as a failure
  pub failed : OnErr r (IsErr found)
  -- want of memory is told of an open connection alone, and never of what was found
  pub memory : HasCleanDisk (state g new) → r ≡ Err Memory
      → IsErr found × Shows (state g mid) (state g new) (state g mid).now (state g mid).now false
  -- whatever is told, no more was done than a statement that failed
  pub left : LeavesEither g mid new
  pub survives : LastsUncommitted g mid new
