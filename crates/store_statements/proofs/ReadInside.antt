-- What a read inside a transaction leaves and tells.
use Rattle.std.proofs.Common.{ℕ, List, Ok, Err, Result, OnOk, IfOk, IfErr}
use Rattle.std.specs.Prelude.{IsOk, Vec, ◌⊎◌}
use Rattle.std.specs.declared.alloc.Global.{Global}
use Rattle.sqlite_trees.specs.declared.store.Store.{Ghosts}
use Rattle.sqlite.specs.Order.{Row}
use Rattle.sqlite.specs.Given.{IsPlain}
use Rattle.sqlite.specs.Listing.{understood}
use Rattle.sqlite.specs.State.{HasCleanDisk, IsTooLate, Shown, FailsToQuery}
use Rattle.sqlite.specs.Held.{Held, state}
use Rattle.oci_types.specs.declared.fault.Fault.{Fault}
use Rattle.store_schema.proofs.Selects.{Answer, leaves_all, keeps_by_query}
use Rattle.store_contents.specs.Layouts.{Layout}
use Rattle.store_statements.specs.Clauses.{KeepsInside, ChangesNothingInside}
use Rattle.store_statements.specs.Held.{HoldsTables, IsReady}
use Rattle.store_statements.specs.Told.{IsRead}
use Rattle.store_statements.proofs.ReadRows.{value_read}

on_read : {A : Type 0} (P : Type 0) (rows : Answer) (read : Result A Fault) → OnOk read (IsOk rows) → OnOk rows P → OnOk read P
on_read P rows (Err e) shown p = tt
on_read P (Ok xs) (Ok v) shown p = p
on_read P (Err e) (Ok v) shown p = absurd cc

module _ {l : Layout} {S : Type 0} (g : Ghosts S) (old new : Held S) (sql : List ℕ) (row : Row) (rows : Answer)
    (ok : HasCleanDisk (state g new) → IfOk rows (λ xs. Shown sql row (state g old) (state g new) xs.items))
    (err : HasCleanDisk (state g new) → IfErr rows (λ e. FailsToQuery sql row (state g old) (state g new) e ⊎ IsTooLate sql row (state g old) (state g new) e))
    (plain : IsReady l (state g old) → IsPlain (understood (state g old).now.schema sql)) where
  pub reads_inside : {A : Type 0} (P : List Row → A → Type 0) (read : Result A Fault) → IsRead rows read P → (T : A → Type 0) (Q : Vec Row Global → Type 0)
      → (HoldsTables l (state g old).now → IfOk rows (λ xs. Shown sql row (state g old) (state g new) xs.items) → IfOk rows Q)
      → ((xs : Vec Row Global) (v : A) → Q xs → P xs.items v → T v) → (HasCleanDisk (state g new) → IsReady l (state g old) → IfOk read T) × ChangesNothingInside g l old new read × KeepsInside g l old new
  reads_inside P read it T Q shows then = (
    λ clean is. value_read T Q P then rows read it.shown it.value (shows is.holds (ok clean)),
    λ clean is. on_read _ rows read it.shown (leaves_all sql row (state g old) (state g new) rows (plain is) (ok clean)),
    λ clean is. keeps_by_query sql row (state g old) (state g new) rows (plain is) (ok clean) (err clean),
  )
