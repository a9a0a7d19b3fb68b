-- What is told of a connection, by whether a value was found.
use Rattle.std.proofs.Common.{◌≡◌, Ok, Err, Result, arith, inl, refl, sym, subst}
use Rattle.std.specs.Prelude.{IsErr, false}
use Rattle.sqlite_trees.specs.declared.store.Store.{Ghosts}
use Rattle.sqlite.specs.Tree.{Trees}
use Rattle.sqlite.specs.State.{State, HasCleanDisk, Shows, Survives}
use Rattle.sqlite.specs.Held.{Held, state}
use Rattle.oci_types.specs.declared.fault.Fault.{Fault}
use Rattle.oci_types.specs.declared.fault.Fault.TheVariants.{Memory, Storage}
use Rattle.store_statements.specs.Clauses.{LastsUncommitted, LeavesEither}
use Rattle.store_statements.specs.Told.{Checked}

pub survives_here : {P : Trees → Type 0} (s : State) → Survives s s P
survives_here s = record {
  clean = omega arith;
  shield = λ h. h;
  counts = omega arith;
  limit = refl;
  closes = λ clean h. inl h;
  crash = λ clean db h. inl h;
}

pub never_done : {A : Type 0} {v : A} → ◌≡◌ {A = Result A Fault} (Ok v) (Err Memory) → ⊥
never_done e = cc

pub never_storage : {A : Type 0} → ◌≡◌ {A = Result A Fault} (Err Storage) (Err Memory) → ⊥
never_storage e = cc

pub fault_is : {A : Type 0} {fault : Fault} → ◌≡◌ {A = Result A Fault} (Err fault) (Err Memory) → fault ≡ Memory
fault_is e = cc

module _ {S : Type 0} (g : Ghosts S) (mid : Held S) {A : Type 0} where
  pub checked_found : (v : A) (found : Result A Fault) → found ≡ Ok v → Checked g mid mid found (Ok v)
  checked_found v found is = record { told = (is, refl); failed = tt; memory = λ clean e. absurd (never_done e); left = λ clean. inl refl; survives = survives_here (state g mid) }

  pub checked_failed : (new : Held S) (fault told : Fault) (found : Result A Fault) → found ≡ Err fault → (HasCleanDisk (state g new) → told ≡ Memory → Shows (state g mid) (state g new) (state g mid).now (state g mid).now false) → LeavesEither g mid new → LastsUncommitted g mid new
      → Checked g mid new found (Err told)
  checked_failed new fault told found is memory left lasts = record { told = tt; failed = subst IsErr (sym is) refl; memory = λ clean e. (subst IsErr (sym is) refl, memory clean (fault_is e)); left = left; survives = lasts }
