-- What a SELECT over one table shows of it.
use Rattle.std.proofs.Common.{◌≡◌, ◌∙◌, ℕ, List, ◌∷◌, [], map, Bool, true, false, None, Some, Ok, Err, Result, IfOk, IfErr, sym, ap, subst, refl, length, suc, ◌<◌, ◌+◌, ◌++◌, get_or, take, arith}
use Rattle.std.specs.declared.alloc.Global.{Global}
use Rattle.std.specs.Prelude.{Vec, ◌^◌, Option, filter, find, nat_le, option_map, slice_get}
use Rattle.std.specs.Option.{option_to_list}
use Rattle.std.specs.List.{AllByRecursion}
use Rattle.std.specs.List.Sorted.{IsPermutation}
use Rattle.sqlite.specs.Order.{Row}
use Rattle.sqlite.specs.Term.{Term, eval_all}
use Rattle.sqlite.specs.Tree.{IsAscending}
use Rattle.sqlite.specs.Command.TheVariants.{Select}
use Rattle.sqlite.specs.Given.{IsPlain}
use Rattle.sqlite.specs.Listing.{understood}
use Rattle.sqlite.specs.State.{State, Shown, FailsToQuery}
use Rattle.sqlite.proofs.Callers.{one_permutation}
use Rattle.std.proofs.lemmas.List.{take_more, map-append}
use Rattle.std.proofs.lemmas.List.Sorted.{length_permutation, IsPermutation-map}
use Rattle.sqlite_trees.proofs.ListLemmas.{filter_same, all_weaker}
use Rattle.store_schema.specs.Layout.{Means, select_from}
use Rattle.store_schema.proofs.Lists.{only_one, no_permutation}
use Rattle.store_schema.proofs.Selects.{Answer, shows, left_by_query, map-map}
use Rattle.store_schema.proofs.Writes.{passes}
use Rattle.store_statements.specs.Held.{LeavesAsWas}

-- a key picks one row, or none
settle : (f : Row → Row) (o : Option Row) (rows : List Row) → IsPermutation (map f (option_to_list o)) rows → rows ≡ map f (option_to_list o)
settle f None rows h = no_permutation rows h
settle f (Some r) rows h = one_permutation _ rows h

module _ (Is : Row → Type 0) (text : List ℕ) (names : List (List ℕ)) (tree : ℕ) (terms project : List Term) (params : Row) (p : Row → Bool) (old new : State)
    (stored : nat_le (2 ^ 31) tree ≡ false) (types : AllByRecursion Is (old.now.trees tree))
    (means : Means old.now.schema text (Select (record { lets = []; body = select_from tree terms project }) names))
    (test : (r : Row) → Is r → passes params terms r ≡ p r) where
  -- the rows that pass, in any order
  pub lists : (r : Answer) → IfOk r (λ rows. Shown text params old new rows.items) → IfOk r (λ rows. IsPermutation (map (λ r. eval_all project (params ∷ r ∷ [])) (filter p (old.now.trees tree))) rows.items)
  lists (Err e) h = tt
  lists (Ok rows) h = subst (λ xs. IsPermutation (map (λ r. eval_all project (params ∷ r ∷ [])) xs) rows.items) (filter_same (passes params terms) p (old.now.trees tree) (all_weaker Is (λ r. passes params terms r ≡ p r) test (old.now.trees tree) types))
      (shows old.now.schema text names tree terms project params old new rows.items refl means stored h)

  -- the row of a key
  pub finds : (R : Row → Row → Type 0) → ((a b : Row) → R a b → p a ≡ true → p b ≡ false) → IsAscending R (old.now.trees tree)
      → (r : Answer) → IfOk r (λ rows. Shown text params old new rows.items) → IfOk r (λ rows. rows.items ≡ map (λ r. eval_all project (params ∷ r ∷ [])) (option_to_list (find p (old.now.trees tree))))
  finds R parts apart (Err e) h = tt
  finds R parts apart (Ok rows) h = settle _ _ rows.items (subst (λ xs. IsPermutation (map (λ r. eval_all project (params ∷ r ∷ [])) xs) rows.items) (only_one p R parts _ apart) (lists (Ok rows) h))

pub leaves_failed : (sql : List ℕ) (params : Row) (old new : State) (r : Answer) → IsPlain (understood old.now.schema sql) → IfErr r (FailsToQuery sql params old new) → IfErr r (λ e. LeavesAsWas old new)
leaves_failed sql params old new (Ok rows) plain h = tt
leaves_failed sql params old new (Err e) plain h = left_by_query sql params old new e plain h

-- what the first row shows
pub first_shown : {X : Type 0} (g : Row → X) (f : Row → Row) (o : Option Row) (rows : List Row) → rows ≡ map f (option_to_list o) → option_map g (slice_get rows 0) ≡ option_map (λ r. g (f r)) o
first_shown g f None rows e = ap (λ l. option_map g (slice_get l 0)) e
first_shown g f (Some r) rows e = ap (λ l. option_map g (slice_get l 0)) e

pub length_mapped : {X : Type 0} (f : Row → X) (xs : List Row) → length (map f xs) ≡ length xs
length_mapped f [] = refl
length_mapped f (x ∷ xs) = ap suc (length_mapped f xs)

-- as many are shown as there are
pub counted : (f : Row → Row) (xs rows : List Row) → IsPermutation (map f xs) rows → length rows ≡ length xs
counted f xs rows h = omega (arith, length_permutation (map f xs) rows h, length_mapped f xs)

-- one more row
pub mapped_more : {X : Type 0} (g : Row → X) (rows : List Row) (at : ℕ) (row : Row) (x : X) (xs news : List X) → at < length rows → row ≡ get_or rows at row → x ≡ g row → xs ≡ map g (take at rows) → news ≡ xs ++ x ∷ [] → news ≡ map g (take (at + 1) rows)
mapped_more g rows at row x xs news low is shown e f =
    f ∙ ap (λ ys. ys ++ x ∷ []) e ∙ ap (λ y. map g (take at rows) ++ y ∷ []) shown
    ∙ sym (map-append g (take at rows) (row ∷ [])) ∙ ap (map g) (sym (take_more rows at row low ∙ ap (λ y. take at rows ++ y ∷ []) (sym is)))

-- what is read of all the rows
pub lists_of : {X : Type 0} (g : Row → X) (f : Row → Row) (some rows : List Row) (xs : List X) → IsPermutation (map f some) rows → xs ≡ map g rows → IsPermutation (map (λ r. g (f r)) some) xs
lists_of g f some rows xs same e = subst (IsPermutation (map (λ r. g (f r)) some)) (sym e) (subst (λ l. IsPermutation l (map g rows)) (map-map g f some) (IsPermutation-map g _ _ same))

-- in their order
pub all_of_them : {X E : Type 0} (g : Row → X) (f : Row → Row) (some rows : List Row) (r : Result (Vec X Global) E) → rows ≡ map f some → IfOk r (λ xs. xs.items ≡ map g rows) → IfOk r (λ xs. xs.items ≡ map (λ r. g (f r)) some)
all_of_them g f some rows (Ok xs) same e = e ∙ ap (map g) same ∙ map-map g f some
all_of_them g f some rows (Err x) same e = tt

pub mapped : {X : Type 0} (g : Row → X) (f : Row → Row) (some rows : List Row) (xs : List X) → rows ≡ map f some → xs ≡ map g rows → xs ≡ map (λ r. g (f r)) some
mapped g f some rows xs same e = e ∙ ap (map g) same ∙ map-map g f some
