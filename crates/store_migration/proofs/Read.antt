-- What is read of rows that were asked for.
use Rattle.std.proofs.Common.{◌≡◌, ◌∙◌, ℕ, List, map, None, Some, Ok, Err, Result, IfOk, IsOkAnd, OnOk, slice_get, ap, subst}
use Rattle.std.specs.Prelude.{Option, option_map}
use Rattle.std.specs.Option.{option_to_list}
use Rattle.sqlite.specs.Order.{Row}
use Rattle.sqlite.specs.State.{State, Shown}
use Rattle.store_schema.proofs.Selects.{Answer}

-- what is so of the rows is so of what was read of them
pub read_of : {X A E F : Type 0} (rows : Result X E) (r : Result A F) (Shows : A → X → Type 0) (P : X → Type 0) (Q : A → Type 0)
    → ((a : A) (x : X) → Shows a x → P x → Q a) → IfOk r (λ a. IsOkAnd rows (Shows a)) → IfOk rows P → IfOk r Q
read_of rows (Err e) Shows P Q f h is = tt
read_of (Ok x) (Ok a) Shows P Q f h is = f a x h is
read_of (Err e) (Ok a) Shows P Q f h is = absurd h

pub same_of : {X A E F : Type 0} (rows : Result X E) (r : Result A F) (Shows : A → X → Type 0) (P : Type 0)
    → IfOk r (λ a. IsOkAnd rows (Shows a)) → OnOk rows P → OnOk r P
same_of rows (Err e) Shows P h is = tt
same_of (Ok x) (Ok a) Shows P h is = is
same_of (Err e) (Ok a) Shows P h is = absurd h

-- what the one row of a key shows, or none
pub first_shown : {X : Type 0} (f : Row → Row) (g h : Row → X) (o : Option Row) (rows : List Row) → ((r : Row) → h (f r) ≡ g r) → rows ≡ map f (option_to_list o)
    → option_map h (slice_get rows 0) ≡ option_map g o
first_shown f g h None rows each e = ap (λ l. option_map h (slice_get l 0)) e
first_shown f g h (Some r) rows each e = ap (λ l. option_map h (slice_get l 0)) e ∙ ap Some (each r)

-- what was shown for the values that were bound
pub shown_for : (sql : List ℕ) (row params : Row) (old new : State) (r : Answer) → row ≡ params → IfOk r (λ rows. Shown sql row old new rows.items) → IfOk r (λ rows. Shown sql params old new rows.items)
shown_for sql row params old new r are = subst (λ (p : Row). IfOk r (λ rows. Shown sql p old new rows.items)) are
