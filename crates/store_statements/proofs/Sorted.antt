-- A SELECT in the order of one column.
use Rattle.std.proofs.Common.{◌≡◌, ◌∙◌, ◌<◌, arith, ℕ, pos, List, [], ◌∷◌, map, true, false, cond, Ordering, Less, Equal, Greater, is_gt, lt-ltb, le-ltb, sym, ap, subst, refl}
use Rattle.std.specs.Prelude.{◌==◌}
use Rattle.std.specs.List.{AllByRecursion}
use Rattle.std.specs.Ordering.{is_eq, int_cmp, nat_cmp, ordering_then, MatchOrdering}
use Rattle.std.specs.Cmp.{ranked, tied_itself, int_cmp_total}
use Rattle.sqlite_value.proofs.OrderLemmas.{value_cmp-Int, then-Equal}
use Rattle.sqlite_sql.proofs.QueryLemmas.{output_cmp_total}
use Rattle.sqlite.specs.declared.types.Value.{Value}
use Rattle.sqlite.specs.declared.types.Value.TheVariants.{Int}
use Rattle.sqlite.specs.Order.{Row, value_cmp}
use Rattle.sqlite.specs.Term.{Term, col, eval_all}
use Rattle.sqlite.specs.Tree.{Trees}
use Rattle.sqlite.specs.Query.{Query, IsAnswer, Output, output, output_cmp}
use Rattle.sqlite.specs.Collation.TheVariants.{Binary}
use Rattle.sqlite_value.specs.declared.keys.Key.{Key}
use Rattle.sqlite_value.specs.Keys.{ascending}
use Rattle.sqlite_keyed.specs.Lists.{insert_sorted, sort_by}
use Rattle.sqlite_keyed.proofs.SortLemmas.{HasNoTies, sorted_is-sort_by, sort_by-map}
use Rattle.store_schema.proofs.Selects.{chosen, one_each, map-map}
use Rattle.store_schema.proofs.Pages.{out_of}
use Rattle.store_schema.specs.Layout.{select_from}
use Rattle.store_schema.specs.Ordered.{ordered_from}
use Rattle.store_statements.proofs.SessionKeys.{int_eq_number}

-- the rows that pass, in an order
abbrev pub in_order : ℕ → List Term → List Term → List (Term × Key) → Query
in_order tree terms project order = record (select_from tree terms project) { order = order }

pub ordered_by : (tree : ℕ) (order : List (Term × Key)) (terms project : List Term) (db : Trees) (params : Row) (rows : List Row) → let q = in_order tree terms project order in
    HasNoTies (output_cmp q) (output_cmp_total q) (map (out_of q params) (chosen params terms (db tree))) → IsAnswer q db params rows
    → rows ≡ map (λ r. eval_all project (params ∷ r ∷ [])) (sort_by (λ a b. output_cmp q (out_of q params a) (out_of q params b)) (chosen params terms (db tree)))
ordered_by tree order terms project db params rows apart a =
    let q = in_order tree terms project order in
    let some = chosen params terms (db tree) in
    let staged : a.staged ≡ map (λ r. params ∷ r ∷ []) some = a.grouped ∙ one_each _ (λ r. params ∷ r ∷ []) (db tree) in
    let kept : a.kept ≡ map (out_of q params) some = a.distinct ∙ ap (map (output q)) staged ∙ map-map (output q) (λ r. params ∷ r ∷ []) some in
    let placed : a.ordered ≡ sort_by (output_cmp q) (map (out_of q params) some) = sorted_is-sort_by (output_cmp q) (output_cmp_total q) _ a.ordered apart (subst (λ l. Rattle.std.specs.List.Sorted.IsPermutation l a.ordered) kept a.same) a.sorted in
    a.shown ∙ ap (map (λ (o : Output). o.1)) (placed ∙ sort_by-map (output_cmp q) (out_of q params) some) ∙ map-map (λ (o : Output). o.1) (out_of q params) _

-- in that of one column
pub ordered : (tree at : ℕ) (terms project : List Term) (db : Trees) (params : Row) (rows : List Row) → let q = ordered_from tree terms project at in
    HasNoTies (output_cmp q) (output_cmp_total q) (map (out_of q params) (chosen params terms (db tree))) → IsAnswer q db params rows
    → rows ≡ map (λ r. eval_all project (params ∷ r ∷ [])) (sort_by (λ a b. output_cmp q (out_of q params a) (out_of q params b)) (chosen params terms (db tree)))
ordered tree at terms project db params rows apart a = ordered_by tree ((col 1 at, ascending Binary) ∷ []) terms project db params rows apart a

-- ---- the same order by another comparison

module _ {X : Type 0} (P : X → Type 0) (f g : X → X → Ordering) (agree : (a b : X) → P a → P b → f a b ≡ g a b) where
  insert_same : (x : X) → P x → (xs : List X) → AllByRecursion P xs → insert_sorted f x xs ≡ insert_sorted g x xs
  insert_same x p [] h = refl
  insert_same x p (y ∷ ys) h = ap (λ o. cond (is_gt o) (y ∷ insert_sorted f x ys) (x ∷ y ∷ ys)) (agree x y p h.0) ∙ ap (λ l. cond (is_gt (g x y)) (y ∷ l) (x ∷ y ∷ ys)) (insert_same x p ys h.1)

  all_inserted : (x : X) → P x → (xs : List X) → AllByRecursion P xs → AllByRecursion P (insert_sorted g x xs)
  all_inserted x p [] h = (p, tt)
  all_inserted x p (y ∷ ys) h = elim (is_gt (g x y)) as (λ b. AllByRecursion P (cond b (y ∷ insert_sorted g x ys) (x ∷ y ∷ ys))) [ true ↦ (h.0, all_inserted x p ys h.1) | false ↦ (p, h) ]

  all_sorted : (xs : List X) → AllByRecursion P xs → AllByRecursion P (sort_by g xs)
  all_sorted [] h = tt
  all_sorted (x ∷ xs) h = all_inserted x h.0 (sort_by g xs) (all_sorted xs h.1)

  pub sort_same : (xs : List X) → AllByRecursion P xs → sort_by f xs ≡ sort_by g xs
  sort_same [] h = refl
  sort_same (x ∷ xs) h = ap (insert_sorted f x) (sort_same xs h.1) ∙ insert_same x h.0 (sort_by g xs) (all_sorted xs h.1)

-- ---- the order of numbers

numbers_compared : (m n : ℕ) → int_cmp (pos m) (pos n) ≡ nat_cmp m n
numbers_compared m n = go (nat_cmp m n) refl (ranked m n _ refl)
  where
    go : (o : Ordering) → nat_cmp m n ≡ o → MatchOrdering o (m < n) (m ≡ n) (n < m) → int_cmp (pos m) (pos n) ≡ nat_cmp m n
    go Less e low = let it : int_cmp (pos m) (pos n) ≡ Less = rw (lt-ltb m n low) in it ∙ sym e
    go Equal e same = subst (λ k. int_cmp (pos m) (pos k) ≡ Equal) same (tied_itself int_cmp_total (pos m)) ∙ sym e
    go Greater e up = let it : int_cmp (pos m) (pos n) ≡ Greater = rw (le-ltb m n (omega arith), lt-ltb n m up) in it ∙ sym e

pub number_order : (v w : Value) (m n : ℕ) → v ≡ Int (pos m) → w ≡ Int (pos n) → ordering_then (value_cmp v w) Equal ≡ nat_cmp m n
number_order v w m n e f = then-Equal (value_cmp v w) ∙ ap (λ x. value_cmp x w) e ∙ ap (value_cmp (Int (pos m))) f ∙ value_cmp-Int (pos m) (pos n) ∙ numbers_compared m n

pub number_tie : (m n : ℕ) → is_eq (nat_cmp m n) ≡ (m == n)
number_tie m n = ap is_eq (sym (numbers_compared m n)) ∙ int_eq_number m n
