-- What a SELECT over one table shows, whose rows are of its types.
use Rattle.std.proofs.Common.{◌≡◌, ◌∙◌, ℕ, List, [], ◌∷◌, map, Bool, true, false, None, Some, Ok, Err, IfOk, sym, subst, refl}
use Rattle.std.specs.Prelude.{◌^◌, nat_le, filter, find, Option}
use Rattle.std.specs.List.Sorted.{IsPermutation}
use Rattle.std.specs.Option.{option_to_list}
use Rattle.std.proofs.lemmas.List.Sorted.{IsPermutation-map}
use Rattle.sqlite.specs.Order.{Row}
use Rattle.sqlite.specs.Table.{Table}
use Rattle.sqlite.specs.Term.{Term, eval_all}
use Rattle.sqlite.specs.Command.TheVariants.{Select}
use Rattle.sqlite.specs.State.{State, Shown}
use Rattle.sqlite.proofs.Callers.{one_permutation}
use Rattle.sqlite_trees.proofs.ListLemmas.{filter_same, all_weaker, map-map}
use Rattle.store_schema.specs.Layout.{rows_of, tree_of, Means, select_from}
use Rattle.store_schema.proofs.Lists.{only_one, no_permutation}
use Rattle.store_schema.proofs.Selects.{Answer, shows}
use Rattle.store_schema.proofs.Writes.{passes}
use Rattle.store_statements.specs.Tables.{AreRows}

one_or_none : (f : Row → Row) (o : Option Row) (rows : List Row) → IsPermutation (map f (option_to_list o)) rows → rows ≡ map f (option_to_list o)
one_or_none f None rows h = no_permutation rows h
one_or_none f (Some r) rows h = one_permutation _ rows h

module _ (table : Table) (Is : Row → Type 0) (same : Row → Row → Bool) where
  -- the rows at which the test of WHERE holds, in any order
  pub lists : (text : List ℕ) (names : List (List ℕ)) (terms project : List Term) (params : Row) (p : Row → Bool) (old new : State) (r : Answer)
      → Means old.now.schema text (Select (record { lets = []; body = select_from (tree_of old.now.schema table) terms project }) names) → nat_le (2 ^ 31) (tree_of old.now.schema table) ≡ false
      → AreRows Is same (rows_of old.now table) → ((r : Row) → Is r → passes params terms r ≡ p r) → IfOk r (λ rows. Shown text params old new rows.items)
      → IfOk r (λ rows. IsPermutation (map (λ r. eval_all project (params ∷ r ∷ [])) (filter p (rows_of old.now table))) rows.items)
  lists text names terms project params p old new (Err e) means stored are test h = tt
  lists text names terms project params p old new (Ok rows) means stored are test h =
      subst (λ xs. IsPermutation (map (λ r. eval_all project (params ∷ r ∷ [])) xs) rows.items) (filter_same (passes params terms) p _ (all_weaker Is (λ r. passes params terms r ≡ p r) test _ are.types))
      (shows old.now.schema text names _ terms project params old new rows.items refl means stored h)

  -- the one row of a key
  pub finds : (text : List ℕ) (names : List (List ℕ)) (terms project : List Term) (params : Row) (p : Row → Bool) (old new : State) (r : Answer)
      → Means old.now.schema text (Select (record { lets = []; body = select_from (tree_of old.now.schema table) terms project }) names) → nat_le (2 ^ 31) (tree_of old.now.schema table) ≡ false
      → AreRows Is same (rows_of old.now table) → ((r : Row) → Is r → passes params terms r ≡ p r) → ((a b : Row) → same a b ≡ false → p a ≡ true → p b ≡ false) → IfOk r (λ rows. Shown text params old new rows.items)
      → IfOk r (λ rows. rows.items ≡ map (λ r. eval_all project (params ∷ r ∷ [])) (option_to_list (find p (rows_of old.now table))))
  finds text names terms project params p old new (Err e) means stored are test parts h = tt
  finds text names terms project params p old new (Ok rows) means stored are test parts h =
      one_or_none _ _ rows.items (subst (λ xs. IsPermutation (map (λ r. eval_all project (params ∷ r ∷ [])) xs) rows.items) (only_one p (λ a b. same a b ≡ false) parts _ are.apart)
      (lists text names terms project params p old new (Ok rows) means stored are test h))

-- ---- what rows read as

-- what is read of each row that was shown
pub permutation_read : {X : Type 0} (f : Row → Row) (g h : Row → X) (table rows : List Row) (read : List X) → ((r : Row) → h (f r) ≡ g r) → IsPermutation (map f table) rows → read ≡ map h rows → IsPermutation (map g table) read
permutation_read f g h table rows read each same e =
    subst (IsPermutation (map g table)) (sym e) (subst (λ xs. IsPermutation xs (map h rows)) (map-map h f table ∙ (λ i. map (λ r. each r i) table)) (IsPermutation-map h _ _ same))
