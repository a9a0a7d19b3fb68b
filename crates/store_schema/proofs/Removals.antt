-- Rows are taken out of a table by a test.
use Rattle.std.proofs.Common.{◌≡◌, ℤ, List, [], ◌∷◌, map, Bool, true, false, cond, not, refl, sym, ap, ◌∙◌, Less}
use Rattle.std.specs.Prelude.{filter, ◌||◌, IsTrue}
use Rattle.std.specs.List.{AllByRecursion, list_any}
use Rattle.std.specs.List.Sorted.{IsPermutation}
use Rattle.std.specs.Ordering.{is_eq, ordering_reverse}
use Rattle.std.proofs.lemmas.List.Sorted.{list_any-IsPermutation}
use Rattle.std.proofs.lemmas.Cmp.{tied_itself}
use Rattle.sqlite_value.specs.Order.{Row, value_cmp}
use Rattle.sqlite_value.proofs.OrderLemmas.{value_cmp_total}
use Rattle.sqlite_trees.specs.Tree.{rowid, has_rowid, without_rowid}
use Rattle.sqlite_trees.specs.View.{is_int}
use Rattle.sqlite_trees.proofs.ListLemmas.{filter_all, filter_same, all_of, all_weaker, all-filter}
use Rattle.sqlite_rules.specs.Edit.{id_in, without_all}
use Rattle.sqlite_rules.specs.Calls.{ids_of}
use Rattle.sqlite_rules.proofs.TableLemmas.{int_is}
use Rattle.store_schema.specs.Rows.{HaveIds}

abbrev same_id : Row → Row → Bool
same_id s r = has_rowid (id_in (rowid s)) r

twice : (p q s : Row → Bool) → ((r : Row) → s r ≡ cond (q r) (p r) false) → (rows : List Row) → filter p (filter q rows) ≡ filter s rows
twice p q s h [] = refl
twice p q s h (r ∷ rs) = step (q r) (s r) (h r) (twice p q s h rs)
  where
    step : (b d : Bool) → d ≡ cond b (p r) false → filter p (filter q rs) ≡ filter s rs → filter p (cond b (r ∷ filter q rs) (filter q rs)) ≡ cond d (r ∷ filter s rs) (filter s rs)
    step true d e more = rw (e, more)
    step false d e more = rw (e, more)

neither : (a b : Bool) → not (a || b) ≡ cond (not a) (not b) false
neither true b = refl
neither false b = refl

without_all_is : (ids : List ℤ) (rows : List Row) → without_all rows ids ≡ filter (λ r. not (list_any (λ id. has_rowid id r) ids)) rows
without_all_is [] rows = sym (filter_all _ rows (all_of _ (λ r. refl) rows))
without_all_is (id ∷ ids) rows = without_all_is ids (without_rowid id rows)
    ∙ twice (λ r. not (list_any (λ i. has_rowid i r) ids)) (λ r. not (has_rowid id r)) _ (λ r. neither (has_rowid id r) (list_any (λ i. has_rowid i r) ids)) rows

any-map : {A B : Type 0} (p : B → Bool) (f : A → B) (xs : List A) → list_any p (map f xs) ≡ list_any (λ x. p (f x)) xs
any-map p f [] = refl
any-map p f (x ∷ xs) = ap (λ b. p (f x) || b) (any-map p f xs)

none_any : {A : Type 0} (p : A → Bool) (xs : List A) → AllByRecursion (λ x. p x ≡ false) xs → list_any p xs ≡ false
none_any p [] h = refl
none_any p (x ∷ xs) h = rw (h.0, none_any p xs h.1)

later_apart : (r x : Row) → IsTrue (is_int (rowid r)) → value_cmp (rowid r) (rowid x) ≡ Less → same_id r x ≡ false
later_apart r x whole below =
    ap (λ v. is_eq (value_cmp (rowid x) v)) (sym (int_is (rowid r) whole)) ∙ ap is_eq (value_cmp_total.antisymm (rowid x) (rowid r) ∙ ap ordering_reverse below)

earlier_apart : (r x : Row) → IsTrue (is_int (rowid x)) → value_cmp (rowid r) (rowid x) ≡ Less → same_id x r ≡ false
earlier_apart r x whole below = ap (λ v. is_eq (value_cmp (rowid r) v)) (sym (int_is (rowid x) whole)) ∙ ap is_eq below

pub same_itself : (r : Row) → IsTrue (is_int (rowid r)) → same_id r r ≡ true
same_itself r whole = ap (λ v. is_eq (value_cmp (rowid r) v)) (sym (int_is (rowid r) whole)) ∙ ap is_eq (tied_itself value_cmp_total (rowid r))

earlier_all : (r : Row) (rs : List Row) → AllByRecursion (λ x. value_cmp (rowid r) (rowid x) ≡ Less) rs → AllByRecursion (λ x. IsTrue (is_int (rowid x))) rs → AllByRecursion (λ x. same_id x r ≡ false) rs
earlier_all r [] h w = tt
earlier_all r (x ∷ rs) h w = (earlier_apart r x w.0 h.0, earlier_all r rs h.1 w.1)

-- by the ids of the rows that pass, the rows that pass are found
taken : (p : Row → Bool) (rows : List Row) → HaveIds rows → filter (λ r. not (list_any (λ s. same_id s r) (filter p rows))) rows ≡ filter (λ r. not (p r)) rows
taken p [] h = refl
taken p (r ∷ rs) h =
    let L = filter p rs in
    let skip : (x : Row) → value_cmp (rowid r) (rowid x) ≡ Less → not (list_any (λ s. same_id s x) (filter p (r ∷ rs))) ≡ not (list_any (λ s. same_id s x) L) =
    λ x below. ap not (past (p r) x (later_apart r x h.1.0 below)) in
    let tail : filter (λ x. not (list_any (λ s. same_id s x) (filter p (r ∷ rs)))) rs ≡ filter (λ x. not (p x)) rs =
    filter_same _ _ rs (all_weaker _ _ skip rs h.0.0) ∙ taken p rs (h.0.1, h.1.1) in
    let first : list_any (λ s. same_id s r) (filter p (r ∷ rs)) ≡ p r = here (p r) in
    rw (first, tail)
  where
    past : (b : Bool) (x : Row) → same_id r x ≡ false → list_any (λ s. same_id s x) (cond b (r ∷ filter p rs) (filter p rs)) ≡ list_any (λ s. same_id s x) (filter p rs)
    past true x e = rw e
    past false x e = refl

    here : (b : Bool) → list_any (λ s. same_id s r) (cond b (r ∷ filter p rs) (filter p rs)) ≡ b
    here true = rw (same_itself r h.1.0)
    here false = none_any _ (filter p rs) (all-filter _ p rs (earlier_all r rs h.0.0 h.1.1))

-- what an answer shows of the rows that pass, by which they are taken out
pub removed : (p : Row → Bool) (f : Row → Row) → ((r : Row) → rowid (f r) ≡ rowid r) → (rows shown : List Row) → HaveIds rows → IsPermutation (map f (filter p rows)) shown
    → without_all rows (ids_of shown) ≡ filter (λ r. not (p r)) rows
removed p f keeps rows shown ids same =
    let each : (r : Row) → not (list_any (λ id. has_rowid id r) (ids_of shown)) ≡ not (list_any (λ s. same_id s r) (filter p rows)) = λ r. ap not (
    any-map (λ id. has_rowid id r) (λ s. id_in (rowid s)) shown ∙ sym (list_any-IsPermutation (λ s. same_id s r) _ _ same) ∙ any-map (λ s. same_id s r) f (filter p rows)
    ∙ any_same (λ s. ap (λ v. has_rowid (id_in v) r) (keeps s)) (filter p rows)) in
    without_all_is (ids_of shown) rows ∙ filter_same _ _ rows (all_of _ each rows) ∙ taken p rows ids
  where
    any_same : {A : Type 0} {u v : A → Bool} → ((x : A) → u x ≡ v x) → (xs : List A) → list_any u xs ≡ list_any v xs
    any_same e [] = refl
    any_same e (x ∷ xs) = rw (e x, any_same e xs)
