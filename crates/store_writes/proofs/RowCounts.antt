-- What the count of rows that pass tells.
use Rattle.std.proofs.Common.{◌≡◌, ◌≢◌, List, [], ◌∷◌, Bool, true, false, cond, None, Some, length, refl, ap}
use Rattle.std.specs.Prelude.{find, filter, is_some}
use Rattle.sqlite.specs.Order.{Row}
use Rattle.store_statements.specs.Changes.{changed}

pub none_counted : (p : Row → Bool) (rows : List Row) → length (filter p rows) ≡ 0 → find p rows ≡ None
none_counted p [] e = refl
none_counted p (r ∷ rows) e = step (p r) (none_counted p rows) e
  where
    step : (b : Bool) → (length (filter p rows) ≡ 0 → find p rows ≡ None) → length (cond b (r ∷ filter p rows) (filter p rows)) ≡ 0 → cond b (Some r) (find p rows) ≡ None
    step true more e = absurd cc
    step false more e = more e

pub some_counted : (p : Row → Bool) (rows : List Row) → length (filter p rows) ≢ 0 → is_some (find p rows) ≡ true
some_counted p [] e = absurd (e refl)
some_counted p (r ∷ rows) e = step (p r) (some_counted p rows) e
  where
    step : (b : Bool) → (length (filter p rows) ≢ 0 → is_some (find p rows) ≡ true) → length (cond b (r ∷ filter p rows) (filter p rows)) ≢ 0 → is_some (cond b (Some r) (find p rows)) ≡ true
    step true more e = refl
    step false more e = more e

-- where none passes, none changed
pub none_changed : (p : Row → Bool) (f : Row → Row) (rows : List Row) → find p rows ≡ None → changed p f rows ≡ rows
none_changed p f [] e = refl
none_changed p f (r ∷ rows) e = step (p r) (none_changed p f rows) e
  where
    step : (b : Bool) → (find p rows ≡ None → changed p f rows ≡ rows) → cond b (Some r) (find p rows) ≡ None → (cond b (f r) r ∷ changed p f rows) ≡ r ∷ rows
    step true more e = absurd cc
    step false more e = ap (λ rs. r ∷ rs) (more e)
