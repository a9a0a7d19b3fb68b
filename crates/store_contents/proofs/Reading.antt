-- What is told of a statement, and of what is read of the rows that a query showed.
use Rattle.std.proofs.Common.{◌≡◌, ◌⊎◌, inl, List, Ok, Err, Result, OnOk, IfOk, IfErr, sym, subst, refl}
use Rattle.std.specs.Prelude.{IsOk, MatchResult, Vec, ⊤}
use Rattle.std.specs.declared.alloc.Global.{Global}
use Rattle.sqlite.specs.Order.{Row}
use Rattle.sqlite.specs.State.{State, IsUnchanged, IsRolledBack}
use Rattle.sqlite.specs.declared.error.Error.{Error}
use Rattle.oci_types.specs.declared.fault.Fault.{Fault}
use Rattle.store_schema.proofs.Selects.{Answer}
use Rattle.store_contents.specs.Read.{IsRead}
use Rattle.store_contents.specs.Search.{fault_by}

-- what is so where it ran is so where it was done
pub on_done : {A B : Type 0} (P : Type 0) (ran : Result A Error) (r : Result B Fault) → OnOk r (IsOk ran) → OnOk ran P → OnOk r P
on_done P ran (Err e) was p = tt
on_done P (Ok x) (Ok y) was p = p
on_done P (Err e) (Ok y) was p = absurd cc

-- the value, or what the error is to a caller
module _ {A : Type 0} (found : Result A Error) (r : Result A Fault) (is : MatchResult found (λ v. r ≡ Ok v) (λ e. r ≡ Err (fault_by e))) where
  pub told_if : (P : A → Type 0) → IfOk found P → IfOk r P
  told_if P p = go found is p
    where
      go : (found : Result A Error) → MatchResult found (λ v. r ≡ Ok v) (λ e. r ≡ Err (fault_by e)) → IfOk found P → IfOk r P
      go (Ok v) is p = subst (λ x. IfOk x P) (sym is) p
      go (Err e) is p = subst (λ x. IfOk x P) (sym is) tt

  pub told_on : (P : Type 0) → OnOk found P → OnOk r P
  told_on P p = go found is p
    where
      go : (found : Result A Error) → MatchResult found (λ v. r ≡ Ok v) (λ e. r ≡ Err (fault_by e)) → OnOk found P → OnOk r P
      go (Ok v) is p = subst (λ x. OnOk x P) (sym is) p
      go (Err e) is p = subst (λ x. OnOk x P) (sym is) tt

  pub told_failed : (P : Type 0) → IfErr found (λ _. P) → IfErr r (λ _. P)
  told_failed P p = go found is p
    where
      go : (found : Result A Error) → MatchResult found (λ v. r ≡ Ok v) (λ e. r ≡ Err (fault_by e)) → IfErr found (λ _. P) → IfErr r (λ _. P)
      go (Ok v) is p = subst (λ x. IfErr x (λ _. P)) (sym is) tt
      go (Err e) is p = subst (λ x. IfErr x (λ _. P)) (sym is) p

-- ---- what is read of rows

pub is_read : {A : Type 0} (rows : Answer) (xs : Vec Row Global) (read : Result A Fault) (P : List Row → A → Type 0) → rows ≡ Ok xs → IfOk read (P xs.items) → IsRead rows read P
is_read rows xs (Ok v) P is p = record { shown = subst IsOk (sym is) refl; value = subst (λ (r : Answer). IfOk r (λ ys. P ys.items v)) (sym is) p }
is_read rows xs (Err e) P is p = record { shown = tt; value = subst (λ (r : Answer). IfOk r (λ ys. ⊤)) (sym is) tt }

pub not_read : {A : Type 0} (rows : Answer) (e : Error) (fault : Fault) (P : List Row → A → Type 0) → rows ≡ Err e → IsRead rows (Err fault) P
not_read rows e fault P is = record { shown = tt; value = subst (λ (r : Answer). IfOk r (λ ys. ⊤)) (sym is) tt }

pub value_read : {A : Type 0} (P : List Row → A → Type 0) (rows : Answer) (read : Result A Fault) → IsRead rows read P → (T : A → Type 0) (Q : Vec Row Global → Type 0) → IfOk rows Q → ((xs : Vec Row Global) (v : A) → Q xs → P xs.items v → T v) → IfOk read T
value_read {A = A} P rows read it T Q q then = go rows read it.shown it.value q
  where
    go : (rows : Answer) (read : Result A Fault) → OnOk read (IsOk rows) → IfOk rows (λ xs. IfOk read (P xs.items)) → IfOk rows Q → IfOk read T
    go rows (Err e) shown value q = tt
    go (Ok xs) (Ok v) shown value q = then xs v q value
    go (Err e) (Ok v) shown value q = absurd cc

-- it was only read
pub same_read : {A : Type 0} (P : List Row → A → Type 0) (rows : Answer) (read : Result A Fault) → IsRead rows read P → (old new : State) → OnOk rows (IsUnchanged old new) → OnOk read (IsUnchanged old new)
same_read P rows read it old new same = on_done _ rows read it.shown same

pub left_read : {A : Type 0} (old new : State) (rows : Answer) (read : Result A Fault) → OnOk rows (IsUnchanged old new) → IfErr rows (λ _. IsUnchanged old new ⊎ IsRolledBack old new) → IfErr read (λ _. IsUnchanged old new ⊎ IsRolledBack old new)
left_read old new rows (Ok v) same left = tt
left_read old new (Ok xs) (Err e) same left = inl same
left_read old new (Err x) (Err e) same left = left
