-- The rows that a SELECT shows in the order of the text in a column, which no two of one repository share: their second, and of grants their first.
use Rattle.std.proofs.Common.{◌≡◌, ◌∙◌, ℕ, List, [], ◌∷◌, map, Bool, true, false, cond, Ok, Err, IfOk, Ordering, Less, Equal, Greater, is_gt, is_eq, sym, ap, subst, refl}
use Rattle.std.specs.Prelude.{◌^◌, ◌&&◌, nat_le, filter, bytes_eq}
use Rattle.std.specs.Ordering.{nat_cmp, ordering_then}
use Rattle.std.specs.Cmp.Lexicographic.{slice_cmp}
use Rattle.std.specs.List.{AllByRecursion}
use Rattle.std.proofs.Math.Bool.{and-true}
use Rattle.std.specs.List.Sorted.{IsPermutation}
use Rattle.std.proofs.lemmas.Map.Text.{is_eq-slice_cmp}
use Rattle.sqlite.specs.declared.types.Value.{Value}
use Rattle.sqlite.specs.declared.types.Value.TheVariants.{Null, Text}
use Rattle.sqlite.specs.Order.{Row, column, value_cmp}
use Rattle.sqlite.specs.Term.{Term, eval, eval_all}
use Rattle.sqlite.specs.Tree.{Trees, IsAscending}
use Rattle.sqlite.specs.Query.{Query, IsAnswer, Output, output, output_cmp, limited, as_count}
use Rattle.sqlite.specs.Command.TheVariants.{Select}
use Rattle.sqlite.specs.Program.{overlay}
use Rattle.sqlite.specs.State.{State, Shown}
use Rattle.registry_model.specs.World.{text_cmp}
use Rattle.sqlite.proofs.Callers.{reads_as}
use Rattle.sqlite_value.proofs.OrderLemmas.{value_cmp-Text}
use Rattle.sqlite_sql.proofs.QueryLemmas.{output_cmp_total}
use Rattle.sqlite_keyed.specs.Lists.{insert_sorted, sort_by}
use Rattle.sqlite_keyed.proofs.ListLemmas.{ascending-map}
use Rattle.sqlite_keyed.proofs.SortLemmas.{sorted_is-sort_by, sort_by-map}
use Rattle.sqlite_trees.proofs.ListLemmas.{filter_same, all_weaker, all-filter, ascending-filter}
use Rattle.store_schema.specs.Rows.{bytes_at, IsTextAt}
use Rattle.store_schema.specs.Layout.{Means}
use Rattle.store_schema.proofs.Lists.{bytes_eq-sym, bytes_eq_true}
use Rattle.store_schema.proofs.Selects.{Answer, chosen, one_each, map-map, means_command, stored_here}
use Rattle.store_schema.proofs.Writes.{passes}
use Rattle.store_statements.specs.Keys.{of_first, of_second, same_key}
use Rattle.store_schema.specs.Ordered.{ordered_from}
use Rattle.store_statements.specs.ManifestShown.{by_second}
use Rattle.store_statements.specs.Shown.{by_token}

-- ---- sorting by orders that agree

module _ {X : Type 0} where
  ins_same : (cmp other : X → X → Ordering) (x : X) (ys : List X) → AllByRecursion (λ y. cmp x y ≡ other x y) ys → insert_sorted cmp x ys ≡ insert_sorted other x ys
  ins_same cmp other x [] h = refl
  ins_same cmp other x (y ∷ ys) h = ap (λ o. cond (is_gt o) (y ∷ insert_sorted cmp x ys) (x ∷ y ∷ ys)) h.0 ∙ ap (λ l. cond (is_gt (other x y)) (y ∷ l) (x ∷ y ∷ ys)) (ins_same cmp other x ys h.1)

  all_inserted : (P : X → Type 0) (cmp : X → X → Ordering) (x : X) (ys : List X) → P x → AllByRecursion P ys → AllByRecursion P (insert_sorted cmp x ys)
  all_inserted P cmp x [] h all = (h, tt)
  all_inserted P cmp x (y ∷ ys) h all = elim (is_gt (cmp x y)) as (λ b. AllByRecursion P (cond b (y ∷ insert_sorted cmp x ys) (x ∷ y ∷ ys))) [ true ↦ (all.0, all_inserted P cmp x ys h all.1) | false ↦ (h, all) ]

  all_sorted : (P : X → Type 0) (cmp : X → X → Ordering) (xs : List X) → AllByRecursion P xs → AllByRecursion P (sort_by cmp xs)
  all_sorted P cmp [] all = tt
  all_sorted P cmp (x ∷ xs) all = all_inserted P cmp x (sort_by cmp xs) all.0 (all_sorted P cmp xs all.1)

  sort_same : (P : X → Type 0) (cmp other : X → X → Ordering) → ((a b : X) → P a → P b → cmp a b ≡ other a b) → (xs : List X) → AllByRecursion P xs → sort_by cmp xs ≡ sort_by other xs
  sort_same P cmp other agree [] h = refl
  sort_same P cmp other agree (x ∷ xs) h =
      ins_same cmp other x (sort_by cmp xs) (all_weaker P (λ y. cmp x y ≡ other x y) (λ y p. agree x y h.0 p) (sort_by cmp xs) (all_sorted P cmp xs h.1)) ∙ ap (insert_sorted other x) (sort_same P cmp other agree xs h.1)

  ascending_in : (P : X → Type 0) (R S : X → X → Type 0) → ((a b : X) → P a → P b → R a b → S a b) → (xs : List X) → AllByRecursion P xs → IsAscending R xs → IsAscending S xs
  ascending_in P R S f [] all up = tt
  ascending_in P R S f (x ∷ xs) all up = (each xs all.1 up.0, ascending_in P R S f xs all.1 up.1)
    where
      each : (ys : List X) → AllByRecursion P ys → AllByRecursion (R x) ys → AllByRecursion (S x) ys
      each [] p r = tt
      each (y ∷ ys) p r = (f x y all.0 p.0 r.0, each ys p.1 r.1)

  kept_pass : (p : X → Bool) (xs : List X) → AllByRecursion (λ x. p x ≡ true) (filter p xs)
  kept_pass p [] = tt
  kept_pass p (x ∷ xs) = step (p x) refl (kept_pass p xs)
    where
      step : (b : Bool) → p x ≡ b → AllByRecursion (λ y. p y ≡ true) (filter p xs) → AllByRecursion (λ y. p y ≡ true) (cond b (x ∷ filter p xs) (filter p xs))
      step true e more = (e, more)
      step false e more = more

-- ---- the order of the query

then_equal : (o : Ordering) → ordering_then o Equal ≡ o
then_equal Less = refl
then_equal Equal = refl
then_equal Greater = refl

text_order : (v w : Value) (s t : List ℕ) → v ≡ Text s → w ≡ Text t → value_cmp v w ≡ slice_cmp nat_cmp s t
text_order v w s t e f = rw (e, f) (value_cmp-Text s t)

abbrev pub by_column : ℕ → Row → Row → Ordering
by_column at a b = text_cmp (bytes_at a at) (bytes_at b at)

abbrev the_query : ℕ → ℕ → List Term → List Term → Term → Query
the_query at tree terms project limit = record (ordered_from tree terms project at) { limit = limit }

module _ (at tree : ℕ) (terms project : List Term) (limit : Term) (params : Row) where
  abbrev q : Query
  q = the_query at tree terms project limit

  abbrev out : Row → Output
  out r = output q (params ∷ r ∷ [])

  agree : (a b : Row) → IsTextAt a at → IsTextAt b at → output_cmp q (out a) (out b) ≡ by_column at a b
  agree a b s t = then_equal (value_cmp (column a at) (column b at)) ∙ text_order (column a at) (column b at) _ _ s t

  in_order : (db : Trees) (some rows : List Row) → chosen params terms (db tree) ≡ some → AllByRecursion (λ r. IsTextAt r at) some → IsAscending (λ a b. bytes_eq (bytes_at a at) (bytes_at b at) ≡ false) some → IsAnswer q db params rows
      → rows ≡ limited (as_count (eval limit (params ∷ []))) (map (λ r. eval_all project (params ∷ r ∷ [])) (sort_by (by_column at) some))
  in_order db some rows e types apart a =
      let staged : a.staged ≡ map (λ r. params ∷ r ∷ []) some = a.grouped ∙ one_each _ (λ r. params ∷ r ∷ []) (db tree) ∙ ap (map (λ r. params ∷ r ∷ [])) e in
      let kept : a.kept ≡ map out some = a.distinct ∙ ap (map (output q)) staged ∙ map-map (output q) (λ r. params ∷ r ∷ []) some in
      let untied : IsAscending (λ x y. is_eq (output_cmp q x y) ≡ false) (map out some) = ascending-map (λ x y. is_eq (output_cmp q x y) ≡ false) out some
      (ascending_in (λ r. IsTextAt r at) _ (λ x y. is_eq (output_cmp q (out x) (out y)) ≡ false) (λ x y s t h. ap is_eq (agree x y s t) ∙ is_eq-slice_cmp (bytes_at x at) (bytes_at y at) ∙ h) some types apart) in
      let order : a.ordered ≡ sort_by (output_cmp q) (map out some) = sorted_is-sort_by (output_cmp q) (output_cmp_total q) (map out some) a.ordered untied (subst (λ l. IsPermutation l a.ordered) kept a.same) a.sorted in
      let shown : map (λ (o : Output). o.1) a.ordered ≡ map (λ r. eval_all project (params ∷ r ∷ [])) (sort_by (λ x y. output_cmp q (out x) (out y)) some) =
      ap (map (λ (o : Output). o.1)) (order ∙ sort_by-map (output_cmp q) out some) ∙ map-map (λ (o : Output). o.1) out _ in
      a.shown ∙ ap (limited (as_count (eval limit (params ∷ [])))) (shown ∙ ap (map (λ r. eval_all project (params ∷ r ∷ []))) (sort_same (λ r. IsTextAt r at) _ (by_column at) agree some types))

-- by a column that no two of the rows share
pub orders_by : (at : ℕ) (Is : Row → Type 0) (text : List ℕ) (names : List (List ℕ)) (tree : ℕ) (terms project : List Term) (limit : Term) (params : Row) (p : Row → Bool) (old new : State) (r : Answer)
    → nat_le (2 ^ 31) tree ≡ false → AllByRecursion Is (old.now.trees tree) → IsAscending (λ a b. same_key a b ≡ false) (old.now.trees tree)
    → Means old.now.schema text (Select (record { lets = []; body = the_query at tree terms project limit }) names)
    → ((r : Row) → Is r → passes params terms r ≡ p r) → ((r : Row) → Is r → IsTextAt r at)
    → ((a b : Row) → p a ≡ true → p b ≡ true → same_key a b ≡ false → bytes_eq (bytes_at a at) (bytes_at b at) ≡ false)
    → IfOk r (λ rows. Shown text params old new rows.items)
    → IfOk r (λ rows. rows.items ≡ limited (as_count (eval limit (params ∷ []))) (map (λ r. eval_all project (params ∷ r ∷ [])) (sort_by (by_column at) (filter p (old.now.trees tree)))))
orders_by at Is text names tree terms project limit params p old new (Err e) stored types apart means test is_text parts h = tt
orders_by at Is text names tree terms project limit params p old new (Ok rows) stored types apart means test is_text parts h =
    let table = old.now.trees tree in
    let read = reads_as text params old new old.now.schema refl _ (means_command old.now.schema text _ means) means.plain means.unlisted rows.items h in
    let some : chosen params terms (overlay old.now.trees [] tree) ≡ filter p table = ap (chosen params terms) (stored_here tree old.now.trees stored) ∙ filter_same (passes params terms) p table (all_weaker Is (λ r. passes params terms r ≡ p r) test table types) in
    in_order at tree terms project limit params (overlay old.now.trees []) (filter p table) rows.items some
    (all-filter (λ r. IsTextAt r at) p table (all_weaker Is (λ r. IsTextAt r at) is_text table types))
    (ascending_in (λ r. p r ≡ true) (λ a b. same_key a b ≡ false) (λ a b. bytes_eq (bytes_at a at) (bytes_at b at) ≡ false) parts (filter p table)
    (kept_pass p table) (ascending-filter (λ a b. same_key a b ≡ false) p table apart))
    (read.answer Null)

-- rows of one repository have no second column twice
second_apart : (repo : List ℕ) (a b : Row) → of_first repo a ≡ true → of_first repo b ≡ true → same_key a b ≡ false → bytes_eq (bytes_at a 2) (bytes_at b 2) ≡ false
second_apart repo a b ea eb e =
    let first : bytes_eq (bytes_at b 1) (bytes_at a 1) ≡ true = ap (bytes_eq (bytes_at b 1)) (bytes_eq_true _ _ ea) ∙ eb in
    bytes_eq-sym (bytes_at a 2) (bytes_at b 2) ∙ sym (ap (λ x. x && bytes_eq (bytes_at b 2) (bytes_at a 2)) first) ∙ e

pub orders : (Is : Row → Type 0) (text : List ℕ) (names : List (List ℕ)) (tree : ℕ) (terms project : List Term) (limit : Term) (params : Row) (p : Row → Bool) (repo : List ℕ) (old new : State) (r : Answer)
    → nat_le (2 ^ 31) tree ≡ false → AllByRecursion Is (old.now.trees tree) → IsAscending (λ a b. same_key a b ≡ false) (old.now.trees tree)
    → Means old.now.schema text (Select (record { lets = []; body = the_query 2 tree terms project limit }) names)
    → ((r : Row) → Is r → passes params terms r ≡ p r) → ((r : Row) → Is r → IsTextAt r 2) → ((r : Row) → p r ≡ true → of_first repo r ≡ true)
    → IfOk r (λ rows. Shown text params old new rows.items)
    → IfOk r (λ rows. rows.items ≡ limited (as_count (eval limit (params ∷ []))) (map (λ r. eval_all project (params ∷ r ∷ [])) (sort_by by_second (filter p (old.now.trees tree)))))
orders Is text names tree terms project limit params p repo old new r stored types apart means test is_text within h =
    orders_by 2 Is text names tree terms project limit params p old new r stored types apart means test is_text (λ a b ea eb e. second_apart repo a b (within a ea) (within b eb) e) h

-- rows of grants on one repository have no token twice
first_apart : (repo : List ℕ) (a b : Row) → of_second repo a ≡ true → of_second repo b ≡ true → same_key a b ≡ false → bytes_eq (bytes_at a 1) (bytes_at b 1) ≡ false
first_apart repo a b ea eb e =
    let second : bytes_eq (bytes_at b 2) (bytes_at a 2) ≡ true = ap (bytes_eq (bytes_at b 2)) (bytes_eq_true _ _ ea) ∙ eb in
    bytes_eq-sym (bytes_at a 1) (bytes_at b 1) ∙ sym (and-true (bytes_eq (bytes_at b 1) (bytes_at a 1))) ∙ sym (ap (λ x. bytes_eq (bytes_at b 1) (bytes_at a 1) && x) second) ∙ e

pub orders_tokens : (Is : Row → Type 0) (text : List ℕ) (names : List (List ℕ)) (tree : ℕ) (terms project : List Term) (limit : Term) (params : Row) (repo : List ℕ) (old new : State) (r : Answer)
    → nat_le (2 ^ 31) tree ≡ false → AllByRecursion Is (old.now.trees tree) → IsAscending (λ a b. same_key a b ≡ false) (old.now.trees tree)
    → Means old.now.schema text (Select (record { lets = []; body = the_query 1 tree terms project limit }) names)
    → ((r : Row) → Is r → passes params terms r ≡ of_second repo r) → ((r : Row) → Is r → IsTextAt r 1)
    → IfOk r (λ rows. Shown text params old new rows.items)
    → IfOk r (λ rows. rows.items ≡ limited (as_count (eval limit (params ∷ []))) (map (λ r. eval_all project (params ∷ r ∷ [])) (sort_by by_token (filter (of_second repo) (old.now.trees tree)))))
orders_tokens Is text names tree terms project limit params repo old new r stored types apart means test is_text h =
    orders_by 1 Is text names tree terms project limit params (of_second repo) old new r stored types apart means test is_text (first_apart repo) h
