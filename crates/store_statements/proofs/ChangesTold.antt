-- What is told of a change that was one transaction.
use Rattle.std.proofs.Common.{◌≡◌, Ok, Err, Result, OnOk, OnErr, sym, subst}
use Rattle.std.specs.Prelude.{IfOk, IsErr}
use Rattle.sqlite_trees.specs.declared.store.Store.{Ghosts}
use Rattle.sqlite.specs.Tree.{Trees}
use Rattle.sqlite.specs.State.{State, HasCleanDisk}
use Rattle.sqlite.specs.Held.{Held, state}
use Rattle.oci_types.specs.declared.fault.Fault.{Fault}
use Rattle.store_contents.specs.Layouts.{Layout}
use Rattle.store_statements.specs.Between.{GoesBack, StaysOnMemory}
use Rattle.store_statements.specs.Clauses.{Lasts}
use Rattle.store_statements.proofs.Transactions.{stays_back, survives_all}
use Rattle.store_statements.specs.Told.{Checked}
use Rattle.store_statements.proofs.Alone.{less, less_err}
use Rattle.store_statements.proofs.Crashes.{back_either, none_more}
use Rattle.store_statements.proofs.CleanBefore.{was_clean}

both : {A E : Type 0} (P Q : Type 0) (d r : Result A E) → IfOk r (λ v. (d ≡ Ok v) × Q) → OnOk d P → OnOk r (P × Q)
both P Q d (Err e) told p = tt
both P Q (Ok x) (Ok y) told p = (p, told.1)
both P Q (Err e) (Ok y) told p = absurd (let no = told.0 in cc)

failed : {A E P : Type 0} (r : Result A E) → IsErr r → OnErr r P → P
failed (Ok x) is p = absurd cc
failed (Err e) is p = p

module _ {S : Type 0} {g : Ghosts S} (old : Held S) {mid new : Held S} {A : Type 0} {done r : Result A Fault} (checks : Checked g mid new done r) where
  pub told_lasts : Lasts g old mid → Lasts g old new
  told_lasts worked = survives_all (state g old) (state g mid) (state g new) _ _ worked checks.survives

  -- what is so where it was done is told
  pub told_so : (P : State → Type 0) → HasCleanDisk (state g new) → (HasCleanDisk (state g mid) → OnOk done (P (state g mid))) → OnOk r (P (state g new))
  told_so P clean so = less r (λ h. subst (λ (h : Held S). P (state g h)) (sym h.1) h.0) (both _ _ done r checks.told (so (was_clean checks.survives clean)))

  pub told_memory : {l : Layout} → GoesBack g l old mid done → StaysOnMemory g l old new r
  told_memory {l} back clean is memory =
      let it = checks.memory clean memory in
      stays_back (state g old) (state g mid) (state g new) is (failed done it.0 (back (was_clean checks.survives clean) is)) it.1

  -- a failure changed nothing, where the connection is open
  pub told_back : {l : Layout} → GoesBack g l old mid done → GoesBack g l old new r
  told_back {l} back clean is = less_err r (λ it. back_either g old mid new is (failed done it (back (was_clean checks.survives clean) is)) (checks.left clean)) checks.failed

  -- a crash leaves what it left then
  pub told_crash : HasCleanDisk (state g new) → (db : Trees) → (state g new).may_leave db → (state g mid).may_leave db
  told_crash clean db may = none_more (checks.survives.crash clean db may)
