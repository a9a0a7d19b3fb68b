-- What the clauses of reads between transactions say of a connection before a call and after it. Each holds
-- where the disk has returned what was written.
use Rattle.std.specs.Prelude.{◌≡◌, ℕ, false, Result, OnOk, IfOk}
use Rattle.sqlite_trees.specs.declared.store.Store.{Ghosts}
use Rattle.sqlite.specs.Order.{Row}
use Rattle.sqlite.specs.Effect.{Database}
use Rattle.sqlite.specs.State.{HasCleanDisk, IsUnchanged}
use Rattle.sqlite.specs.Held.{Held, state}
use Rattle.oci_types.specs.declared.fault.Fault.{Fault}
use Rattle.store_schema.specs.Rows.{natural_at}
use Rattle.store_statements.specs.Held.{IsKept, is_storage}
use Rattle.store_statements.specs.Clauses.{Lasts, LastsUncommitted}
use Rattle.store_contents.specs.Places.{HoldsPlaces}
use Rattle.store_pack.specs.Commits.{IsSettled, Stays}

-- what a row that shows size and place names of the file: the offset, and how many bytes
abbrev pub run_shown : Row → ℕ × ℕ
run_shown r = (natural_at r 1, natural_at r 0)

module _ {S : Type 0} (g : Ghosts S) (old new : Held S) where
  -- the value is this of the database before
  abbrev pub Finds : {A E : Type 0} → Result A E → (Database → A → Type 0) → Type 0
  Finds r P = HasCleanDisk (state g new) → HoldsPlaces (state g old).now → IfOk r (λ v. P (state g old).now v)

  -- nothing changed
  abbrev pub ChangesNothing : {A E : Type 0} → Result A E → Type 0
  ChangesNothing r =
      HasCleanDisk (state g new) → HoldsPlaces (state g old).now
      → OnOk r (IsUnchanged (state g old) (state g new))

  -- unless the storage failed, it is settled, with the same database
  abbrev pub StaysSettled : {A : Type 0} → Result A Fault → Type 0
  StaysSettled r =
      HasCleanDisk (state g new) → IsSettled (state g old) → is_storage r ≡ false
      → Stays (state g old) (state g new)

  -- whatever came of it, where the connection is open nothing changed, and a crash leaves what was there
  abbrev pub Keeps : Type 0
  Keeps = HasCleanDisk (state g new) → IsSettled (state g old) → IsKept (state g old) (state g new)

  -- no fault is forgotten, and nothing was committed
  abbrev pub LastsUnchanged : Type 0
  LastsUnchanged = (HasCleanDisk (state g old) → HoldsPlaces (state g old).now) → LastsUncommitted g old new

-- all of these
pub record Reads {S : Type 0} (g : Ghosts S) (old new : Held S) {A : Type 0} (r : Result A Fault)
    (P : Database → A → Type 0) : Type 0 where
  pub found : Finds g old new r P
  pub same : ChangesNothing g old new r
  pub settled : StaysSettled g old new r
  pub kept : Keeps g old new
  pub survives : LastsUnchanged g old new
  pub lasts : Lasts g old new
