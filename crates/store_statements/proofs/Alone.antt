-- What a change leaves that is one transaction: its work begins where the store was settled, and then it ends.
use Rattle.std.proofs.Common.{◌≡◌, ◌⊎◌, inl, inr, true, Ok, Err, Result, OnOk, OnErr, sym, subst, refl}
use Rattle.std.specs.Prelude.{IsOk}
use Rattle.sqlite_trees.specs.declared.store.Store.{Ghosts}
use Rattle.sqlite.specs.Tree.{Trees}
use Rattle.sqlite.specs.State.{State, HasCleanDisk, KeepsCommit}
use Rattle.sqlite.specs.Held.{Held, state}
use Rattle.sqlite.proofs.Callers.{survives_begin}
use Rattle.oci_types.specs.declared.fault.Fault.{Fault}
use Rattle.store_contents.specs.Layouts.{Layout}
use Rattle.store_statements.specs.Tables.{Tables}
use Rattle.store_statements.specs.Clauses.{Lasts, LastsUncommitted}
use Rattle.store_statements.specs.Held.{IsReady, IsSettled, Commits, IsBack, held}
use Rattle.store_statements.proofs.Transactions.{back_dropped, survives_all}
use Rattle.store_statements.proofs.CleanBefore.{was_clean}
use Rattle.store_statements.specs.Ends.{Ends}

-- ---- of results

both : {A B E P Q R : Type 0} (d : Result A E) (r : Result B E) → OnOk r (IsOk d) → OnOk d P → OnOk r Q → (P → Q → R) → OnOk r R
both d (Err e) told p q f = tt
both (Ok x) (Ok y) told p q f = f p q
both (Err e) (Ok y) told p q f = absurd cc

pub less : {A E P Q : Type 0} (r : Result A E) → (P → Q) → OnOk r P → OnOk r Q
less (Ok x) f p = f p
less (Err e) f p = tt

pub less_err : {A E P Q : Type 0} (r : Result A E) → (P → Q) → OnErr r P → OnErr r Q
less_err (Ok x) f p = tt
less_err (Err e) f p = f p

-- ---- a change

commits_same : {l : Layout} → {s : State} {t : Tables} → Commits l s t → Commits l s (held l s)
commits_same {l} it = record { is_open = it.is_open; autocommit = it.autocommit; committed = it.committed; holds = it.holds; tables = refl }

-- the tables that were committed are these
pub commits_as : {l : Layout} → (s : State) (t : Tables) → Commits l s (held l s) → held l s ≡ t → Commits l s t
commits_as {l} s t c e = record { is_open = c.is_open; autocommit = c.autocommit; committed = c.committed; holds = c.holds; tables = e }

module _ {S : Type 0} {g : Ghosts S} (old : Held S) {first mid new : Held S} {A B : Type 0} {done : Result A Fault} {r : Result B Fault}
    (begun : first ≡ record old { in_transaction = true }) (ends : Ends g mid new done r) where
  -- what is said of the connection before it was begun is said of it then
  pub at_begin : (P : State → Type 0) → P (record (state g old) { in_transaction = true }) → P (state g first)
  at_begin P p = subst (λ (h : Held S). P (state g h)) (sym begun) p

  pub before_begin : (P : State → Type 0) → P (state g first) → P (record (state g old) { in_transaction = true })
  before_begin P p = subst (λ (h : Held S). P (state g h)) begun p

  pub lasts : LastsUncommitted g first mid → Lasts g old new
  lasts worked = survives_all (state g old) (state g mid) (state g new) _ _ (survives_begin g old (state g mid) _ (subst (λ (h : Held S). LastsUncommitted g h mid) begun worked)) ends.survives

  -- what was so of the work that was done is so of what was committed
  pub committed_so : (l : Layout) → (P : Tables → Type 0) → HasCleanDisk (state g new) → OnOk done (IsReady l (state g mid) × P (held l (state g mid))) → OnOk r (Commits l (state g new) (held l (state g new)) × P (held l (state g new)))
  committed_so l P clean it = both done r ends.told it (ends.committed l clean (less done (λ h. h.0) it)) (λ h c. (commits_same c, subst P (sym c.tables) h.1))

  pub went_back : {l : Layout} → KeepsCommit (state g first) (state g mid) → HasCleanDisk (state g new) → IsSettled l (state g old) → OnOk done (IsReady l (state g mid)) → OnErr r (IsBack (state g old) (state g new))
  went_back {l} kept clean is it = less_err r (back_dropped (state g old) (state g first) (state g mid) (state g new) is (at_begin (λ (s : State). s.committed ≡ (state g old).committed) refl) kept) (ends.undone l clean it)

  -- a crash leaves what it left before, or what the work made, where it was done
  pub crash_left : LastsUncommitted g first mid → HasCleanDisk (state g new) → (db : Trees) → (state g new).may_leave db → (state g old).may_leave db ⊎ (IsOk done × (db ≡ (state g mid).now.trees))
  crash_left worked clean db may =
      let begins = survives_begin g old (state g mid) _ (subst (λ (h : Held S). LastsUncommitted g h mid) begun worked) in
      elim (ends.survives.crash clean db may) [
        | inl earlier ↦ elim (begins.crash (was_clean ends.survives clean) db earlier) [ inl first ↦ inl first | inr none ↦ absurd none ]
        | inr it ↦ inr it
      ]
