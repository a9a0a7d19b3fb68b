-- What is found over a connection that is looked at where it was not.
use Rattle.std.proofs.Common.{◌≡◌, ◌∙◌, inl, false, Ok, Err, Result, OnOk, IfOk, IfErr, refl, sym, ap, subst}
use Rattle.std.specs.Prelude.{IsOk}
use Rattle.sqlite_trees.specs.declared.store.Store.{Ghosts}
use Rattle.sqlite.specs.State.{HasCleanDisk, IsUnchanged}
use Rattle.sqlite.specs.Held.{Held, state}
use Rattle.oci_types.specs.declared.fault.Fault.{Fault}
use Rattle.store_contents.specs.Layouts.{Layout}
use Rattle.store_statements.specs.Between.{Stays, ChangesNothing, FailsAsWas}
use Rattle.store_statements.specs.Clauses.{Lasts}
use Rattle.store_statements.specs.Held.{IsSettled, StaysSettled, LeavesAsWas, is_storage}
use Rattle.store_statements.specs.Told.{Checked}
use Rattle.store_statements.proofs.CleanBefore.{was_clean}
use Rattle.store_statements.proofs.SettledAfter.{stays_read, stays_failed, is_memory}
use Rattle.store_statements.proofs.Transactions.{survives_all}

module _ {l : Layout} {S : Type 0} (g : Ghosts S) (old mid new : Held S) {A : Type 0} (found r : Result A Fault) (checks : Checked g mid new found r)
    (same : ChangesNothing g l old mid found) (failed : FailsAsWas g l old mid found) where
  late : HasCleanDisk (state g new) → HasCleanDisk (state g mid)
  late = was_clean checks.survives

  left : (x : Result A Fault) → OnOk x (IsUnchanged (state g old) (state g mid)) → IfErr x (λ _. LeavesAsWas (state g old) (state g mid)) → LeavesAsWas (state g old) (state g mid)
  left (Ok v) u h = inl u
  left (Err f) u h = h

  told_by : (T : A → Type 0) (out : Result A Fault) → IfOk out (λ v. (found ≡ Ok v) × (new ≡ mid)) → IfOk found T → IfOk out T
  told_by T (Ok v) told so = subst (λ (x : Result A Fault). IfOk x T) told.0 so
  told_by T (Err f) told so = tt

  pub tells : (T : A → Type 0) → (HasCleanDisk (state g mid) → IsSettled l (state g old) → IfOk found T) → HasCleanDisk (state g new) → IsSettled l (state g old) → IfOk r T
  tells T so clean is = told_by T r checks.told (so (late clean) is)

  stays_by : (out : Result A Fault) → IfOk out (λ v. (found ≡ Ok v) × (new ≡ mid)) → (r ≡ out) → HasCleanDisk (state g new) → IsSettled l (state g old) → is_storage out ≡ false → StaysSettled l (state g old) (state g new)
  stays_by (Ok v) told is_out clean is off =
      subst (λ (h : Held S). StaysSettled l (state g old) (state g h)) (sym told.1)
      (stays_read (state g old) (state g mid) is (subst (λ (x : Result A Fault). OnOk x (IsUnchanged (state g old) (state g mid))) told.0 (same (late clean) is)))
  stays_by (Err f) told is_out clean is off =
      stays_failed (state g old) (state g mid) (state g new) is (left found (same (late clean) is) (failed (late clean) is)) (checks.memory clean (is_out ∙ ap Err (is_memory A f off))).1

  pub stays : Stays g l old new r
  stays clean is off = stays_by r checks.told refl clean is off

  pub lasts : Lasts g old mid → Lasts g old new
  lasts first = survives_all (state g old) (state g mid) (state g new) _ _ first checks.survives

-- what is read of what was found
module _ {X A E : Type 0} (rows : Result X E) (read : Result A Fault) (shown : OnOk read (IsOk rows)) where
  pub same_read : (P : Type 0) → OnOk rows P → OnOk read P
  same_read P = by rows read shown
    where
      by : (x : Result X E) (y : Result A Fault) → OnOk y (IsOk x) → OnOk x P → OnOk y P
      by x (Err f) is p = tt
      by (Ok v) (Ok w) is p = p
      by (Err e) (Ok w) is p = absurd cc

  pub left_read : (P Q : Type 0) → (P → Q) → OnOk rows P → IfErr rows (λ _. Q) → IfErr read (λ _. Q)
  left_read P Q f = by rows read
    where
      by : (x : Result X E) (y : Result A Fault) → OnOk x P → IfErr x (λ _. Q) → IfErr y (λ _. Q)
      by x (Ok w) p q = tt
      by (Ok v) (Err e) p q = f p
      by (Err v) (Err e) p q = q
