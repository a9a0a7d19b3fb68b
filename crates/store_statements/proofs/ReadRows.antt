-- What a read between transactions leaves and tells: a query, what is read of its rows, and a look at the
-- connection where either failed.
use Rattle.std.proofs.Common.{◌≡◌, ℕ, List, inl, false, Ok, Err, Result, OnOk, IfOk, IfErr, sym, ap, subst, refl, arith}
use Rattle.std.specs.Prelude.{IsOk, Vec, ⊤}
use Rattle.std.specs.declared.alloc.Global.{Global}
use Rattle.sqlite_trees.specs.declared.store.Store.{Ghosts}
use Rattle.sqlite.specs.Order.{Row}
use Rattle.sqlite.specs.Given.{IsPlain}
use Rattle.sqlite.specs.Listing.{understood}
use Rattle.sqlite.specs.State.{State, HasCleanDisk, IsUnchanged, Shown, Shows, FailsToQuery, Survives, CommitsShowing}
use Rattle.sqlite.specs.Tree.{Trees}
use Rattle.sqlite.specs.Held.{Held, state}
use Rattle.sqlite.specs.declared.error.Error.{Error}
use Rattle.oci_types.specs.declared.fault.Fault.{Fault}
use Rattle.oci_types.specs.declared.fault.Fault.TheVariants.{Memory}
use Rattle.store_schema.proofs.Selects.{Answer, leaves_all, left_by_query, query_survives, survives_both}
use Rattle.store_contents.specs.Layouts.{Layout}
use Rattle.store_statements.specs.Between.{Stays, Keeps}
use Rattle.store_statements.specs.Clauses.{Lasts}
use Rattle.store_statements.specs.Held.{HoldsTables, IsSettled, StaysSettled, LeavesAsWas, is_storage}
use Rattle.store_statements.specs.Told.{IsRead, Checked}
use Rattle.store_statements.proofs.Crashes.{CrashLaw, back_either, kept_by}
use Rattle.store_statements.proofs.SettledAfter.{stays_read, stays_failed, is_memory, back_left}
use Rattle.store_statements.proofs.Transactions.{survives_all}

-- ---- what is read of rows

pub is_read : {A : Type 0} (rows : Answer) (xs : Vec Row Global) (read : Result A Fault) (P : List Row → A → Type 0) → rows ≡ Ok xs → IfOk read (P xs.items) → IsRead rows read P
is_read rows xs (Ok v) P is p = record { shown = subst IsOk (sym is) refl; value = subst (λ (r : Answer). IfOk r (λ ys. P ys.items v)) (sym is) p }
is_read rows xs (Err e) P is p = record { shown = tt; value = subst (λ (r : Answer). IfOk r (λ ys. ⊤)) (sym is) tt }

pub not_read : {A : Type 0} (rows : Answer) (e : Error) (fault : Fault) (P : List Row → A → Type 0) → rows ≡ Err e → IsRead rows (Err fault) P
not_read rows e fault P is = record { shown = tt; value = subst (λ (r : Answer). IfOk r (λ ys. ⊤)) (sym is) tt }

-- ---- a read

module _ {A : Type 0} (T : A → Type 0) (Q : Vec Row Global → Type 0) (P : List Row → A → Type 0) (then : (xs : Vec Row Global) (v : A) → Q xs → P xs.items v → T v) where
  pub value_read : (rows : Answer) (read : Result A Fault) → OnOk read (IsOk rows) → IfOk rows (λ xs. IfOk read (P xs.items)) → IfOk rows Q → IfOk read T
  value_read rows (Err e) shown value q = tt
  value_read (Ok xs) (Ok v) shown value q = then xs v q value
  value_read (Err e) (Ok v) shown value q = absurd cc

  pub value_told : (D : A → Type 0) (rows : Answer) (read r : Result A Fault) → IsRead rows read P → IfOk r (λ v. (read ≡ Ok v) × D v) → IfOk rows Q → IfOk r T
  value_told D rows read (Err e) it is q = tt
  value_told D rows read (Ok v) it is q = subst (λ (x : Result A Fault). IfOk x T) is.0 (value_read rows read it.shown it.value q)

left_as_was : (old mid : State) (rows : Answer) → OnOk rows (IsUnchanged old mid) → IfErr rows (λ _. LeavesAsWas old mid) → LeavesAsWas old mid
left_as_was old mid (Ok xs) same err = inl same
left_as_was old mid (Err e) same err = err

were_shown : {A P : Type 0} (D : A → Type 0) (rows : Answer) (read : Result A Fault) (v : A) → (read ≡ Ok v) → OnOk read (IsOk rows) → OnOk rows P → P
were_shown D (Ok xs) read v is shown p = p
were_shown D (Err e) (Ok w) v is shown p = absurd cc
were_shown D (Err e) (Err f) v is shown p = absurd cc

module _ {S : Type 0} (g : Ghosts S) (old mid new : Held S) (sql : List ℕ) (row : Row) (rows : Answer)
    (ok : HasCleanDisk (state g mid) → IfOk rows (λ xs. Shown sql row (state g old) (state g mid) xs.items))
    (err : HasCleanDisk (state g mid) → IfErr rows (FailsToQuery sql row (state g old) (state g mid)))
    {A : Type 0} (P : List Row → A → Type 0) (read r : Result A Fault) (it : IsRead rows read P) (checks : Checked g mid new read r) where
  late : HasCleanDisk (state g new) → HasCleanDisk (state g mid)
  late clean = omega (arith, checks.survives.clean)

  failed : (e : Answer) → IsPlain (understood (state g old).now.schema sql) → IfErr e (FailsToQuery sql row (state g old) (state g mid)) → IfErr e (λ _. LeavesAsWas (state g old) (state g mid))
  failed (Ok xs) plain h = tt
  failed (Err e) plain h = left_by_query sql row (state g old) (state g mid) e plain h

  settled_by : {l : Layout} → (out : Result A Fault) → IfOk out (λ v. (read ≡ Ok v) × (new ≡ mid)) → (HasCleanDisk (state g new) → out ≡ Err Memory → Shows (state g mid) (state g new) (state g mid).now (state g mid).now false)
      → HasCleanDisk (state g new) → IsSettled l (state g old) → OnOk rows (IsUnchanged (state g old) (state g mid)) → LeavesAsWas (state g old) (state g mid) → is_storage out ≡ false → StaysSettled l (state g old) (state g new)
  settled_by {l} (Ok v) told memory clean is same left unspent =
      subst (λ (h : Held S). StaysSettled l (state g old) (state g h)) (sym told.1) (stays_read (state g old) (state g mid) is (were_shown (λ (a : A). ⊤) rows read v told.0 it.shown same))
  settled_by {l} (Err f) told memory clean is same left unspent =
      stays_failed (state g old) (state g mid) (state g new) is left (memory clean (ap Err (is_memory A f unspent)))

  settled : {l : Layout} → (IsSettled l (state g old) → IsPlain (understood (state g old).now.schema sql)) → Stays g l old new r
  settled {l} plain clean is unspent =
      let same = leaves_all sql row (state g old) (state g mid) rows (plain is) (ok (late clean)) in
      settled_by r checks.told (λ late e. (checks.memory late e).1) clean is same (left_as_was (state g old) (state g mid) rows same (failed rows (plain is) (err (late clean)))) unspent

  -- whatever came of it, nothing changed
  pub reads_kept : {l : Layout} → CrashLaw g → Survives (state g old) (state g mid) (CommitsShowing sql row (state g old)) → (IsSettled l (state g old) → IsPlain (understood (state g old).now.schema sql)) → Keeps g l old new
  reads_kept {l} law survives plain clean is =
      let same = leaves_all sql row (state g old) (state g mid) rows (plain is) (ok (late clean)) in
      let left = left_as_was (state g old) (state g mid) rows same (failed rows (plain is) (err (late clean))) in
      let quiet = query_survives sql row (state g old) (state g mid) (λ early. plain is) survives in
      kept_by g law old new (survives_both (state g old) (state g mid) (state g new) quiet checks.survives) (back_either g old mid new is (back_left (state g old) (state g mid) is left) (checks.left clean)) clean is

  lasts : (C : Trees → Type 0) → Survives (state g old) (state g mid) C → Lasts g old new
  lasts C survives = survives_all (state g old) (state g mid) (state g new) _ _ survives checks.survives

  -- the value is this of the tables, since the rows that are shown are that of them
  pub reads : {l : Layout} → (C : Trees → Type 0) → Survives (state g old) (state g mid) C → (IsSettled l (state g old) → IsPlain (understood (state g old).now.schema sql))
      → (params : Row) → row ≡ params → (T : A → Type 0) (Q : Vec Row Global → Type 0)
      → (HoldsTables l (state g old).now → IfOk rows (λ xs. Shown sql params (state g old) (state g mid) xs.items) → IfOk rows Q)
      → ((xs : Vec Row Global) (v : A) → Q xs → P xs.items v → T v) → (HasCleanDisk (state g new) → IsSettled l (state g old) → IfOk r T) × Stays g l old new r × Lasts g old new
  reads {l} C survives plain params are T Q shows then = (
    λ clean is.
        value_told T Q P then (λ _. new ≡ mid) rows read r it checks.told
        (shows is.holds (subst (λ p. IfOk rows (λ xs. Shown sql p (state g old) (state g mid) xs.items)) are (ok (late clean)))),
    settled plain,
    lasts C survives,
  )
