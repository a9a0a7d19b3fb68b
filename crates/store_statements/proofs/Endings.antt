-- A transaction's end: committed, refused or given up.
use Rattle.std.proofs.Common.{◌≡◌, ◌∙◌, inl, inr, Ok, Err, Result, OnOk, true≢false, refl, sym, subst}
use Rattle.std.specs.Prelude.{IsOk, IsTrue, false}
use Rattle.sqlite_trees.specs.declared.store.Store.{Ghosts}
use Rattle.sqlite.specs.declared.error.Error.{Error}
use Rattle.sqlite.specs.State.{State, HasCleanDisk, IsRolledBack, Shows, Survives}
use Rattle.sqlite.specs.Steps.{FailsToCommit}
use Rattle.sqlite.specs.Held.{Held, state}
use Rattle.oci_types.specs.declared.fault.Fault.{Fault}
use Rattle.sqlite.proofs.StateLemmas.{survives_weaker}
use Rattle.store_statements.proofs.Transactions.{commits}
use Rattle.store_statements.specs.Ends.{Ends}

failed_undone : (mid new : State) (e : Error) → IsTrue mid.in_transaction → FailsToCommit mid new e → IsRolledBack mid new
failed_undone mid new e inside (inl fails) = fails.3
failed_undone mid new e inside (inr late) = absurd (true≢false (sym inside ∙ late.1))

was_done : {A E P : Type 0} (d : Result A E) (x : A) → d ≡ Ok x → OnOk d P → P
was_done {P = P} d x is h = subst (λ v. OnOk v P) is h

-- what the commit writes was done
tried : {A : Type 0} (mid new : State) (done : Result A Fault) (x : A) → done ≡ Ok x → Survives mid new (λ db. db ≡ mid.now.trees) → Survives mid new (λ db. IsOk done × (db ≡ mid.now.trees))
tried mid new done x is it = survives_weaker mid new (λ db. db ≡ mid.now.trees) (λ db. IsOk done × (db ≡ mid.now.trees)) (λ clean db e. (subst IsOk (sym is) refl, e)) it

module _ {S : Type 0} (g : Ghosts S) (mid new : Held S) {A B : Type 0} (done : Result A Fault) where
  pub ends_committed : Survives (state g mid) (state g new) (λ db. db ≡ (state g mid).now.trees) → (x : A) (y : B) → done ≡ Ok x → (HasCleanDisk (state g new) → Shows (state g mid) (state g new) (state g mid).now (state g mid).now false) → Ends g mid new done (Ok y)
  ends_committed it x y is shows = record {
    told = subst IsOk (sym is) refl;
    committed = λ l clean ready. commits (state g mid) (state g new) _ (was_done done x is ready, refl) (shows clean);
    undone = λ l clean ready. tt;
    survives = tried (state g mid) (state g new) done x is it;
  }

  pub ends_refused : Survives (state g mid) (state g new) (λ db. db ≡ (state g mid).now.trees) → (x : A) (fault : Fault) (e : Error) → done ≡ Ok x → (HasCleanDisk (state g new) → FailsToCommit (state g mid) (state g new) e) → Ends g mid new {B = B} done (Err fault)
  ends_refused it x fault e is fails = record {
    told = tt;
    committed = λ l clean ready. tt;
    undone = λ l clean ready. failed_undone (state g mid) (state g new) e (was_done done x is ready).inside (fails clean);
    survives = tried (state g mid) (state g new) done x is it;
  }

  pub ends_given_up : Survives (state g mid) (state g new) (λ _. ⊥) → (fault : Fault) → (HasCleanDisk (state g new) → IsRolledBack (state g mid) (state g new)) → Ends g mid new {B = B} done (Err fault)
  ends_given_up it fault undone = record {
    told = tt;
    committed = λ l clean ready. tt;
    undone = λ l clean ready. undone clean;
    survives = survives_weaker (state g mid) (state g new) _ _ (λ clean db none. absurd none) it;
  }
