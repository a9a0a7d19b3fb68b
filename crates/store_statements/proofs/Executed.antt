-- What a statement inside a transaction leaves, by the kind of the statement, and what its caller is told.
use Rattle.std.proofs.Common.{◌≡◌, ◌∙◌, ◌<◌, ℕ, pos, to_z, w64, List, ◌∷◌, Ok, Err, Result, OnOk, IfOk, ap, ap₂, subst, arith}
use Rattle.std.specs.Prelude.{◌^◌, IsOk, IsTrue, is_ok}
use Rattle.std.proofs.lemmas.Int.{ints}
use Rattle.sqlite_trees.specs.declared.store.Store.{Ghosts}
use Rattle.sqlite.specs.Order.{Row}
use Rattle.sqlite.specs.declared.types.Value.{Value}
use Rattle.sqlite.specs.declared.error.Error.{Error}
use Rattle.sqlite.specs.Values.{bound_value}
use Rattle.sqlite.specs.State.{ExecutesInside, HasCleanDisk}
use Rattle.sqlite.specs.Held.{Held, state}
use Rattle.oci_types.specs.declared.fault.Fault.{Fault}
use Rattle.store_contents.specs.Layouts.{Layout}
use Rattle.store_statements.specs.Clauses.{KeepsInside}
use Rattle.store_statements.specs.Held.{HoldsTables, IsReady}
use Rattle.store_statements.proofs.CommitsKept.{kept_by_execute}

-- ---- the parameters

pub given : {a b : Value} → a ≡ b → {r s : Row} → r ≡ s → bound_value a ∷ r ≡ bound_value b ∷ s
given e f = ap₂ (λ v r. bound_value v ∷ r) e f

-- one that is bound as another value
pub given_as : {a b d : Value} → a ≡ b → bound_value b ≡ d → {r s : Row} → r ≡ s → bound_value a ∷ r ≡ d ∷ s
given_as e is f = ap₂ (λ v r. v ∷ r) (ap bound_value e ∙ is) f

-- a number that a column can have
pub is_whole : (n : ℕ) → n < 2 ^ 63 → to_z w64 n ≡ pos n
is_whole n low = omega (arith, ints)

-- ---- results

told : {A B : Type 0} (P : Type 0) (ran : Result A Error) (r : Result B Fault) → OnOk r (IsOk ran) → OnOk ran P → OnOk r P
told P ran (Err e) is p = tt
told P (Ok x) (Ok y) is p = p
told P (Err e) (Ok y) is p = absurd cc

-- as many are told as there were
pub as_counted : {A : Type 0} (ran : Result A Error) (r : Result A Fault) → IfOk r (λ n. ran ≡ Ok n) → OnOk r (IsOk ran)
as_counted ran (Err e) is = tt
as_counted ran (Ok n) is = ap (λ (x : Result _ Error). is_ok x) is

pub number_told : {A : Type 0} (P : A → Type 0) (ran : Result A Error) (r : Result A Fault) → IfOk r (λ n. ran ≡ Ok n) → IfOk ran P → IfOk r P
number_told P ran (Err e) is p = tt
number_told P ran (Ok n) is p = subst (λ (x : Result _ Error). IfOk x P) is p

module _ {S : Type 0} (g : Ghosts S) (old new : Held S) (sql : List ℕ) (row : Row) (ran : Result ℕ Error)
    (runs : HasCleanDisk (state g new) → IsTrue (state g old).in_transaction → ExecutesInside 0 sql row (state g old) (state g new) ran) where
  pub keeps : (l : Layout) → KeepsInside g l old new
  keeps l clean is = kept_by_execute sql row (state g old) (state g new) ran (runs clean is.inside)

  module _ (params : Row) (are : row ≡ params) where
    ran_so : HasCleanDisk (state g new) → IsTrue (state g old).in_transaction → ExecutesInside 0 sql params (state g old) (state g new) ran
    ran_so clean inside = subst (λ p. ExecutesInside 0 sql p (state g old) (state g new) ran) are (runs clean inside)

    pub makes : {l : Layout} → {A : Type 0} (r : Result A Fault) (P : Type 0) → OnOk r (IsOk ran) → (HoldsTables l (state g old).now → ExecutesInside 0 sql params (state g old) (state g new) ran → OnOk ran P) → HasCleanDisk (state g new) → IsReady l (state g old) → OnOk r P
    makes {l} r P is so clean ready = told P ran r is (so ready.holds (ran_so clean ready.inside))

    -- where this was so before
    pub makes_from : {l : Layout} → {A : Type 0} (r : Result A Fault) (F P : Type 0) → OnOk r (IsOk ran) → (HoldsTables l (state g old).now → F → ExecutesInside 0 sql params (state g old) (state g new) ran → OnOk ran P) → HasCleanDisk (state g new) → IsReady l (state g old) → F → OnOk r P
    makes_from {l} r F P is so clean ready from = told P ran r is (so ready.holds from (ran_so clean ready.inside))

    -- and the number of rows
    pub makes_so_many : {l : Layout} → (r : Result ℕ Fault) (P : Type 0) (Q : ℕ → Type 0) → IfOk r (λ n. ran ≡ Ok n) → (HoldsTables l (state g old).now → ExecutesInside 0 sql params (state g old) (state g new) ran → OnOk ran P × IfOk ran Q)
        → (HasCleanDisk (state g new) → IsReady l (state g old) → OnOk r P) × (HasCleanDisk (state g new) → IsReady l (state g old) → IfOk r Q)
    makes_so_many {l} r P Q is so = (
      makes r P (as_counted ran r is) (λ holds run. (so holds run).0),
      λ clean ready. number_told Q ran r is (so ready.holds (ran_so clean ready.inside)).1,
    )
