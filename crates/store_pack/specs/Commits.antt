-- A connection between transactions, and what a transaction leaves of it, also where a crash follows.
use Rattle.std.specs.Prelude.{◌≡◌, ◌⊎◌, false, Result, Ok, OnOk, OnErr, IfOk, IsOk, IsTrue}
use Rattle.sqlite.specs.Tree.{Trees}
use Rattle.sqlite.specs.Effect.{Database}
use Rattle.sqlite.specs.State.{State, HasCleanDisk, IsRolledBack, Shows, Survives}
use Rattle.oci_types.specs.declared.fault.Fault.{Fault}
use Rattle.store_contents.specs.Places.{HoldsPlaces}

-- open, with nothing uncommitted
pub record IsSettled (s : State) : Type 0 where
  pub is_open : IsTrue s.is_open
  pub autocommit : s.in_transaction ≡ false
  pub committed : s.now ≡ s.committed
  pub holds : HoldsPlaces s.now

-- where the connection is open, it is as it was
pub record IsBack (old new : State) : Type 0 where
  pub same : IsTrue new.is_open → (new.now ≡ old.now) × (new.committed ≡ old.committed)
  pub autocommit : new.in_transaction ≡ false

-- settled still, with the same database
abbrev pub Stays : State → State → Type 0
Stays old new = IsSettled new × (new.now ≡ old.now)

-- settled, and the database is this of the one before
abbrev pub Becomes : {A : Type 0} → (Database → Database → A → Type 0) → State → State → A → Type 0
Becomes P old new value = IsSettled new × P old.now new.now value

-- the database that an opening finds: its trees, with the schema as it was
abbrev pub with_trees : Database → Trees → Database
with_trees db trees = record db { trees = trees }

-- a crash leaves the database as it was, or what the work made of it
abbrev pub Outcomes : {A : Type 0} → (Database → Database → A → Type 0) → State → State → Type 0
Outcomes {A} P old new =
    (db : Trees) → new.may_leave db
    → (db ≡ old.now.trees) ⊎ ((value : A) × P old.now (with_trees old.now db) value)

-- the end of a transaction whose work was done, or failed
pub record Ends {A : Type 0} (mid new : State) (done result : Result A Fault) : Type 0 where
  pub told : IfOk result (λ value. done ≡ Ok value)
  pub committed : HasCleanDisk new → OnOk result (Shows mid new mid.now mid.now false)
  pub undone : HasCleanDisk new → OnOk done (IsTrue mid.in_transaction) → OnErr result (IsRolledBack mid new)
  pub autocommit : new.in_transaction ≡ false
  pub survives : Survives mid new (λ db. IsOk done × (db ≡ mid.now.trees))
