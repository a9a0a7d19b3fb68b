-- What the end of a transaction leaves, and what a caller is told of it.
use Rattle.std.specs.Prelude.{◌≡◌, Result, OnOk, OnErr, IsOk}
use Rattle.sqlite_trees.specs.declared.store.Store.{Ghosts}
use Rattle.sqlite.specs.State.{HasCleanDisk, IsRolledBack, Survives}
use Rattle.sqlite.specs.Held.{Held, state}
use Rattle.oci_types.specs.declared.fault.Fault.{Fault}
use Rattle.store_contents.specs.Layouts.{Layout}
use Rattle.store_statements.specs.Held.{IsReady, Commits, held}

-- The connection was this when the work was done, or failed, and is that after the end. Of work that was
-- done the clauses speak where it left the transaction ready.
pub record Ends {S : Type 0} (g : Ghosts S) (mid new : Held S) {A B : Type 0} (done : Result A Fault)
    (r : Result B Fault) : Type 0 where
  -- no failure of the work is told as done
  pub told : OnOk r (IsOk done)
  pub committed : (l : Layout) → HasCleanDisk (state g new) → OnOk done (IsReady l (state g mid))
      → OnOk r (Commits l (state g new) (held l (state g mid)))
  pub undone : (l : Layout) → HasCleanDisk (state g new) → OnOk done (IsReady l (state g mid))
      → OnErr r (IsRolledBack (state g mid) (state g new))
  -- a crash leaves what it left before, or what the work made, where it was done
  pub survives : Survives (state g mid) (state g new) (λ db. IsOk done × (db ≡ (state g mid).now.trees))
