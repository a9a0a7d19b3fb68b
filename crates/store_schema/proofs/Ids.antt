-- Rows by their rowids.
use Rattle.std.proofs.Common.{◌≡◌, inl, inr, ℤ, List, [], ◌∷◌, Bool, true, false, cond, None, Some, Ordering, Less, Equal, Greater, refl, sym, ap, ◌∙◌, true≢false}
use Rattle.std.specs.Prelude.{find, filter, ◌||◌, IsTrue}
use Rattle.std.specs.List.{AllByRecursion}
use Rattle.std.specs.Ordering.{is_eq, int_eq, ordering_reverse}
use Rattle.std.specs.Option.{option_to_list}
use Rattle.std.proofs.lemmas.Cmp.{tied_itself}
use Rattle.std.proofs.lemmas.Map.Lookups.{exact_signed}
use Rattle.sqlite_value.proofs.OrderLemmas.{value_cmp-Int, value_cmp_total}
use Rattle.sqlite_trees.specs.View.{is_int}
use Rattle.sqlite_rules.specs.Lists.{Has}
use Rattle.sqlite_rules.specs.Edit.{is_taken, id_in}
use Rattle.sqlite_rules.proofs.ListLemmas.{all_has, has_found}
use Rattle.sqlite_rules.proofs.TableLemmas.{int_is}
use Rattle.sqlite.specs.declared.types.Value.{Value}
use Rattle.sqlite.specs.declared.types.Value.TheVariants.{Int}
use Rattle.sqlite.specs.Order.{Row, value_cmp}
use Rattle.sqlite.specs.Tree.{rowid, has_rowid}
use Rattle.store_schema.specs.Rows.{HaveIds}
use Rattle.store_schema.proofs.Lists.{none_kept}

pub is_eq_equal : (o : Ordering) → is_eq o ≡ true → o ≡ Equal
is_eq_equal Less e = absurd cc
is_eq_equal Equal e = refl
is_eq_equal Greater e = absurd cc

pub int_eq_is : (i j : ℤ) → int_eq i j ≡ true → i ≡ j
int_eq_is i j e = exact_signed i j (is_eq_equal _ e)

pub int_eq_itself : (i : ℤ) → int_eq i i ≡ true
int_eq_itself i = sym (ap is_eq (value_cmp-Int i i)) ∙ ap is_eq (tied_itself value_cmp_total (Int i))

-- a row under an id passes the test of an id where the two are equal
pub rowid_test : (i id : ℤ) (v : Value) → v ≡ Int id → is_eq (value_cmp v (Int i)) ≡ int_eq id i
rowid_test i id v e = ap (λ x. is_eq (value_cmp x (Int i))) e ∙ ap is_eq (value_cmp-Int id i)

pub rowid_is : (rows : List Row) (r : Row) → HaveIds rows → Has rows r → rowid r ≡ Int (id_in (rowid r))
rowid_is rows r ids h = int_is (rowid r) (all_has (λ x. IsTrue (is_int (rowid x))) rows r ids.1 h)

pub rowid_passed : (rows : List Row) (r : Row) (id : ℤ) → HaveIds rows → Has rows r → has_rowid id r ≡ true → rowid r ≡ Int id
rowid_passed rows r id ids h e =
    let whole = rowid_is rows r ids h in
    whole ∙ ap Int (int_eq_is (id_in (rowid r)) id (sym (rowid_test id (id_in (rowid r)) (rowid r) whole) ∙ e))

-- a row is found by its rowid
pub find_id : (rows : List Row) (r : Row) (id : ℤ) → HaveIds rows → Has rows r → rowid r ≡ Int id → find (has_rowid id) rows ≡ Some r
find_id [] r id ids h e = absurd h
find_id (x ∷ xs) r id ids (inl same) e = ap (λ t. cond t (Some x) (find (has_rowid id) xs)) (ap (λ y. has_rowid id y) (sym same) ∙ rowid_test id id (rowid r) e ∙ int_eq_itself id) ∙ ap Some (sym same)
find_id (x ∷ xs) r id ids (inr later) e =
    let below : value_cmp (rowid x) (rowid r) ≡ Less = all_has (λ y. value_cmp (rowid x) (rowid y) ≡ Less) xs r ids.0.0 later in
    ap (λ t. cond t (Some x) (find (has_rowid id) xs)) (ap (λ v. is_eq (value_cmp (rowid x) v)) (sym e) ∙ ap is_eq below) ∙ find_id xs r id (ids.0.1, ids.1.1) later e

-- a rowid that is not taken is not found
pub not_taken_found : (rows : List Row) (id : ℤ) (columns : Row) → is_taken rows (Int id ∷ columns) ≡ false → find (has_rowid id) rows ≡ None
not_taken_found [] id columns e = refl
not_taken_found (r ∷ rs) id columns e = go (has_rowid id r) e (not_taken_found rs id columns)
  where
    go : (b : Bool) → b || is_taken rs (Int id ∷ columns) ≡ false → (is_taken rs (Int id ∷ columns) ≡ false → find (has_rowid id) rs ≡ None) → cond b (Some r) (find (has_rowid id) rs) ≡ None
    go true e more = absurd (true≢false e)
    go false e more = more e

-- what is found by a rowid has it
pub found_has : (rows : List Row) (r : Row) (id : ℤ) → HaveIds rows → find (has_rowid id) rows ≡ Some r → Has rows r × (rowid r ≡ Int id)
found_has rows r id ids e = let it = has_found (has_rowid id) rows r e in (it.0, rowid_passed rows r id ids it.0 it.1)

pub int_eq-sym : (i j : ℤ) → int_eq i j ≡ int_eq j i
int_eq-sym i j = sym (ap is_eq (value_cmp-Int i j)) ∙ ap is_eq (value_cmp_total.antisymm (Int i) (Int j)) ∙ turned (value_cmp (Int j) (Int i)) ∙ ap is_eq (value_cmp-Int j i)
  where
    turned : (o : Ordering) → is_eq (ordering_reverse o) ≡ is_eq o
    turned Less = refl
    turned Equal = refl
    turned Greater = refl

-- at most one row has a rowid
pub only_id : (rows : List Row) (id : ℤ) → HaveIds rows → filter (has_rowid id) rows ≡ option_to_list (find (has_rowid id) rows)
only_id [] id ids = refl
only_id (r ∷ rs) id ids = step (has_rowid id r) refl (only_id rs id (ids.0.1, ids.1.1))
  where
    above : rowid r ≡ Int id → (xs : List Row) → AllByRecursion (λ x. value_cmp (rowid r) (rowid x) ≡ Less) xs → AllByRecursion (λ x. has_rowid id x ≡ false) xs
    above named [] h = tt
    above named (x ∷ xs) h = (ap (λ v. is_eq (value_cmp (rowid x) v)) (sym named) ∙ ap is_eq (value_cmp_total.antisymm (rowid x) (rowid r) ∙ ap ordering_reverse h.0), above named xs h.1)

    step : (b : Bool) → has_rowid id r ≡ b → filter (has_rowid id) rs ≡ option_to_list (find (has_rowid id) rs)
        → cond b (r ∷ filter (has_rowid id) rs) (filter (has_rowid id) rs) ≡ option_to_list (cond b (Some r) (find (has_rowid id) rs))
    step true e more = ap (λ ys. r ∷ ys) (none_kept (has_rowid id) rs (above (rowid_passed (r ∷ rs) r id ids (inl refl) e) rs ids.0.0))
    step false e more = more
