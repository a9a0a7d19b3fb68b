-- The levels on all repositories, from the rows of grants that are sorted by repository and token: they are those on each repository, one after the other.
use Rattle.std.proofs.Common.{◌≡◌, ◌∙◌, ◌⊎◌, inl, inr, List, [], ◌∷◌, ◌++◌, map, Bool, true, false, cond, Some, is_some, refl, sym, ap, subst, Ordering, Less, Equal, Greater, is_gt}
use Rattle.std.specs.Prelude.{◌&&◌, T, bytes_eq, filter}
use Rattle.std.specs.List.{AllByRecursion}
use Rattle.std.specs.Ordering.{is_eq, is_lt, ordering_reverse, ordering_then}
use Rattle.std.specs.FinMap as finite
use Rattle.std.specs.FinMap.{entries, is_sorted, get-entries, entries_sorted}
use Rattle.std.specs.FinMap.Entries.{below_all}
use Rattle.std.specs.Cmp.{tied_itself}
use Rattle.std.proofs.lemmas.Cmp.{nat_list_cmp_total}
use Rattle.std.proofs.lemmas.List.{map-append}
use Rattle.std.proofs.lemmas.Map.Text.{is_eq-slice_cmp}
use Rattle.sqlite.specs.Order.{Row}
use Rattle.sqlite.specs.Tree.{IsAscending}
use Rattle.sqlite_trees.proofs.ListLemmas.{map-map}
use Rattle.sqlite_keyed.specs.Lists.{insert_sorted, sort_by}
use Rattle.oci_types.specs.Text.{Text}
use Rattle.registry_model.specs.declared.level.Level.{Level}
use Rattle.registry_model.specs.World.{text_cmp}
use Rattle.registry_model.specs.Lookups.{AreLevelsOver, grants_on, repo_names_of}
use Rattle.store_schema.specs.Rows.{bytes_at, natural_at}
use Rattle.store_schema.proofs.Lists.{bytes_eq_true, bytes_eq_itself}
use Rattle.store_statements.specs.Keys.{of_second}
use Rattle.store_statements.specs.Tables.{Tables, level_of}
use Rattle.store_statements.specs.World.{world_of}
use Rattle.store_statements.specs.Registry.{IsRegistry, is_repo}
use Rattle.store_statements.specs.Shown.{by_repo_and_token, by_token, grant_row}
use Rattle.store_statements.proofs.ContentWorlds.{map_same_on}
use Rattle.store_statements.proofs.Levels.{levels_of, levels_found}
use Rattle.store_statements.proofs.Order.{filter_sorted}
use Rattle.store_statements.proofs.RepoWorlds.{has_repo_found}
use Rattle.std.proofs.lemmas.Cmp.{on_total}

-- ---- names that rise

abbrev Rise : List Text → Type 0
Rise names = IsAscending (λ (a b : Text). text_cmp a b ≡ Less) names

abbrev IsIn : Text → List Text → Type 0
IsIn name [] = ⊥
IsIn name (n ∷ ns) = (name ≡ n) ⊎ IsIn name ns

less_is : (o : Ordering) → T (is_lt o) → o ≡ Less
less_is Less h = refl
less_is Equal h = absurd h
less_is Greater h = absurd h

parts : (a b : Bool) → T (a && b) → T a × T b
parts true true h = (tt, tt)
parts true false h = absurd h
parts false b h = absurd h

below : {X : Type 0} (n : Text) (es : List (Text × X)) → T (below_all text_cmp n es) → AllByRecursion (λ m. text_cmp n m ≡ Less) (map (λ e. e.0) es)
below n [] h = tt
below n (e ∷ es) h = let p = parts _ _ h in (less_is _ p.0, below n es p.1)

rising : {X : Type 0} (es : List (Text × X)) → T (is_sorted text_cmp es) → Rise (map (λ e. e.0) es)
rising [] h = tt
rising (e ∷ es) h = let p = parts _ _ h in (below e.0 es p.0, rising es p.1)

-- a key that a map has is among its keys
among : {X : Type 0} (name : Text) (es : List (Text × X)) → is_some (finite.find text_cmp name es) ≡ true → IsIn name (map (λ e. e.0) es)
among name [] h = absurd cc
among name (e ∷ es) h = step (is_eq (text_cmp name e.0)) refl (λ found. among name es found) h
  where
    step : (b : Bool) → is_eq (text_cmp name e.0) ≡ b → (is_some (finite.find text_cmp name es) ≡ true → IsIn name (map (λ e. e.0) es))
        → is_some (cond b (Some e.1) (finite.find text_cmp name es)) ≡ true → (name ≡ e.0) ⊎ IsIn name (map (λ e. e.0) es)
    step true same more h = inl (bytes_eq_true name e.0 (sym (is_eq-slice_cmp name e.0) ∙ same))
    step false same more h = inr (more h)

above_in : (n name : Text) (ns : List Text) → AllByRecursion (λ m. text_cmp n m ≡ Less) ns → IsIn name ns → text_cmp n name ≡ Less
above_in n name [] all is = absurd is
above_in n name (m ∷ ns) all (inl e) = subst (λ (t : Text). text_cmp n t ≡ Less) (sym e) all.0
above_in n name (m ∷ ns) all (inr more) = above_in n name ns all.1 more

turned : (a b : Text) → text_cmp a b ≡ Less → text_cmp b a ≡ Greater
turned a b e = nat_list_cmp_total.antisymm b a ∙ ap ordering_reverse e

-- ---- a row put among rows that stand repository by repository

-- the rows of each of the names, one name after the other, and of each in the order of the tokens
abbrev grouped : List Text → List Row → List Row
grouped [] rows = []
grouped (n ∷ ns) rows = sort_by by_token (filter (of_second n) rows) ++ grouped ns rows

all_append : (P : Row → Type 0) (xs ys : List Row) → AllByRecursion P xs → AllByRecursion P ys → AllByRecursion P (xs ++ ys)
all_append P [] ys a b = b
all_append P (x ∷ xs) ys a b = (a.0, all_append P xs ys a.1 b)

passing : (p : Row → Bool) (xs : List Row) → AllByRecursion (λ x. p x ≡ true) (filter p xs)
passing p [] = tt
passing p (x ∷ xs) = step (p x) refl (passing p xs)
  where
    step : (b : Bool) → p x ≡ b → AllByRecursion (λ y. p y ≡ true) (filter p xs) → AllByRecursion (λ y. p y ≡ true) (cond b (x ∷ filter p xs) (filter p xs))
    step true e more = (e, more)
    step false e more = more

weaker : (P Q : Row → Type 0) → ((r : Row) → P r → Q r) → (xs : List Row) → AllByRecursion P xs → AllByRecursion Q xs
weaker P Q f [] all = tt
weaker P Q f (x ∷ xs) all = (f x all.0, weaker P Q f xs all.1)

-- the rows of a name have it
of_name : (n : Text) (rows : List Row) → AllByRecursion (λ r. bytes_at r 2 ≡ n) (sort_by by_token (filter (of_second n) rows))
of_name n rows =
    subst (AllByRecursion (λ r. bytes_at r 2 ≡ n)) (filter_sorted by_token (on_total (λ r. bytes_at r 1) nat_list_cmp_total) (of_second n) rows)
    (weaker (λ r. of_second n r ≡ true) (λ r. bytes_at r 2 ≡ n) (λ r e. bytes_eq_true (bytes_at r 2) n e) (filter (of_second n) (sort_by by_token rows)) (passing (of_second n) (sort_by by_token rows)))

all_grouped : (P : Row → Type 0) (ns : List Text) (rows : List Row) → AllByRecursion (λ n. (r : Row) → bytes_at r 2 ≡ n → P r) ns → AllByRecursion P (grouped ns rows)
all_grouped P [] rows all = tt
all_grouped P (n ∷ ns) rows all =
    all_append P (sort_by by_token (filter (of_second n) rows)) (grouped ns rows)
    (weaker (λ r. bytes_at r 2 ≡ n) P all.0 (sort_by by_token (filter (of_second n) rows)) (of_name n rows)) (all_grouped P ns rows all.1)

-- before the second list, and in the first by its order
put_first : (x : Row) (xs ys : List Row) → AllByRecursion (λ y. by_repo_and_token x y ≡ by_token x y) xs → AllByRecursion (λ y. is_gt (by_repo_and_token x y) ≡ false) ys
    → insert_sorted by_repo_and_token x (xs ++ ys) ≡ insert_sorted by_token x xs ++ ys
put_first x [] [] same low = refl
put_first x [] (y ∷ ys) same low = ap (λ b. cond b (y ∷ insert_sorted by_repo_and_token x ys) (x ∷ y ∷ ys)) low.0
put_first x (a ∷ xs) ys same low =
    ap (λ o. cond (is_gt o) (a ∷ insert_sorted by_repo_and_token x (xs ++ ys)) (x ∷ a ∷ (xs ++ ys))) same.0
    ∙ step (is_gt (by_token x a)) (put_first x xs ys same.1 low)
  where
    step : (b : Bool) → insert_sorted by_repo_and_token x (xs ++ ys) ≡ insert_sorted by_token x xs ++ ys
        → cond b (a ∷ insert_sorted by_repo_and_token x (xs ++ ys)) (x ∷ a ∷ (xs ++ ys)) ≡ cond b (a ∷ insert_sorted by_token x xs) (x ∷ a ∷ xs) ++ ys
    step true more = ap (λ l. a ∷ l) more
    step false more = refl

-- behind the first list
put_behind : (x : Row) (xs ys : List Row) → AllByRecursion (λ y. is_gt (by_repo_and_token x y) ≡ true) xs
    → insert_sorted by_repo_and_token x (xs ++ ys) ≡ xs ++ insert_sorted by_repo_and_token x ys
put_behind x [] ys up = refl
put_behind x (a ∷ xs) ys up =
    ap (λ b. cond b (a ∷ insert_sorted by_repo_and_token x (xs ++ ys)) (x ∷ a ∷ (xs ++ ys))) up.0 ∙ ap (λ l. a ∷ l) (put_behind x xs ys up.1)

apart : (x : Row) (n : Text) → text_cmp (bytes_at x 2) n ≡ Less → of_second n x ≡ false
apart x n e = sym (is_eq-slice_cmp (bytes_at x 2) n) ∙ ap is_eq e

apart_above : (x : Row) (n : Text) → text_cmp (bytes_at x 2) n ≡ Greater → of_second n x ≡ false
apart_above x n e = sym (is_eq-slice_cmp (bytes_at x 2) n) ∙ ap is_eq e

-- a row of no name among these changes nothing
not_among : (x : Row) (ns : List Text) (rows : List Row) → AllByRecursion (λ n. text_cmp (bytes_at x 2) n ≡ Less) ns → grouped ns (x ∷ rows) ≡ grouped ns rows
not_among x [] rows all = refl
not_among x (n ∷ ns) rows all =
    ap (λ b. sort_by by_token (cond b (x ∷ filter (of_second n) rows) (filter (of_second n) rows)) ++ grouped ns (x ∷ rows)) (apart x n all.0)
    ∙ ap (λ l. sort_by by_token (filter (of_second n) rows) ++ l) (not_among x ns rows all.1)

put_in : (x : Row) (names : List Text) (rows : List Row) → Rise names → IsIn (bytes_at x 2) names → insert_sorted by_repo_and_token x (grouped names rows) ≡ grouped names (x ∷ rows)
put_in x [] rows up is = absurd is
put_in x (n ∷ ns) rows up (inl e) =
    let low : AllByRecursion (λ m. text_cmp (bytes_at x 2) m ≡ Less) ns = subst (λ (t : Text). AllByRecursion (λ m. text_cmp t m ≡ Less) ns) (sym e) up.0 in
    put_first x (sort_by by_token (filter (of_second n) rows)) (grouped ns rows)
    (weaker (λ r. bytes_at r 2 ≡ n) (λ y. by_repo_and_token x y ≡ by_token x y) (λ y f. ap (λ o. ordering_then o (by_token x y)) (same_name y f)) (sort_by by_token (filter (of_second n) rows)) (of_name n rows))
    (all_grouped (λ y. is_gt (by_repo_and_token x y) ≡ false) ns rows (each ns low))
    ∙ (λ i. sort_by by_token (cond (sym (its_own) i) (x ∷ filter (of_second n) rows) (filter (of_second n) rows)) ++ sym (not_among x ns rows low) i)
  where
    its_own : of_second n x ≡ true
    its_own = subst (λ (t : Text). bytes_eq (bytes_at x 2) t ≡ true) e (bytes_eq_itself (bytes_at x 2))

    same_name : (y : Row) → bytes_at y 2 ≡ n → text_cmp (bytes_at x 2) (bytes_at y 2) ≡ Equal
    same_name y f = ap (text_cmp (bytes_at x 2)) (f ∙ sym e) ∙ tied_itself nat_list_cmp_total (bytes_at x 2)

    each : (ms : List Text) → AllByRecursion (λ m. text_cmp (bytes_at x 2) m ≡ Less) ms → AllByRecursion (λ m. (r : Row) → bytes_at r 2 ≡ m → is_gt (by_repo_and_token x r) ≡ false) ms
    each [] all = tt
    each (m ∷ ms) all = (λ r f. ap (λ o. is_gt (ordering_then o (by_token x r))) (ap (text_cmp (bytes_at x 2)) f ∙ all.0), each ms all.1)
put_in x (n ∷ ns) rows up (inr more) =
    let over : text_cmp (bytes_at x 2) n ≡ Greater = turned n (bytes_at x 2) (above_in n (bytes_at x 2) ns up.0 more) in
    put_behind x (sort_by by_token (filter (of_second n) rows)) (grouped ns rows)
    (weaker (λ r. bytes_at r 2 ≡ n) (λ y. is_gt (by_repo_and_token x y) ≡ true) (λ y f. ap (λ o. is_gt (ordering_then o (by_token x y))) (ap (text_cmp (bytes_at x 2)) f ∙ over)) (sort_by by_token (filter (of_second n) rows)) (of_name n rows))
    ∙ (λ i. sort_by by_token (cond (sym (apart_above x n over) i) (x ∷ filter (of_second n) rows) (filter (of_second n) rows)) ++ put_in x ns rows up.1 more i)

-- rows that are of the names, sorted
by_name_and_token : (names : List Text) (rows : List Row) → Rise names → AllByRecursion (λ r. IsIn (bytes_at r 2) names) rows → sort_by by_repo_and_token rows ≡ grouped names rows
by_name_and_token names [] up all = none names
  where
    none : (ns : List Text) → [] ≡ grouped ns []
    none [] = refl
    none (n ∷ ns) = none ns
by_name_and_token names (x ∷ rows) up all = ap (insert_sorted by_repo_and_token x) (by_name_and_token names rows up all.1) ∙ put_in x names rows up all.0

-- ---- what they stand for

module _ (t : Tables) (is : IsRegistry t) where
  -- the rows of a repository, as its levels
  on_one : (n : Text) → map grant_row (sort_by by_token (filter (of_second n) t.grants)) ≡ grants_on n (levels_of t.grants n)
  on_one n =
      let rows = sort_by by_token (filter (of_second n) t.grants) in
      map_same_on grant_row (λ r. record { repo = n; token = bytes_at r 1; level = level_of (natural_at r 3) }) rows
      (weaker (λ r. bytes_at r 2 ≡ n) (λ r. grant_row r ≡ record { repo = n; token = bytes_at r 1; level = level_of (natural_at r 3) }) (λ r e. λ i. record { repo = e i; token = bytes_at r 1; level = level_of (natural_at r 3) }) rows (of_name n t.grants))
      ∙ sym (map-map (λ (l : Text × Level). record { repo = n; token = l.0; level = l.1 }) (λ r. (bytes_at r 1, level_of (natural_at r 3))) rows)

  over : (names : List Text) → AreLevelsOver (world_of t) names (map grant_row (grouped names t.grants))
  over [] = refl
  over (n ∷ ns) = (
    levels_of t.grants n,
    map grant_row (grouped ns t.grants),
    levels_found t n is,
    over ns,
    map-append grant_row (sort_by by_token (filter (of_second n) t.grants)) (grouped ns t.grants) ∙ ap (λ l. l ++ map grant_row (grouped ns t.grants)) (on_one n),
  )

  named : (r : Row) → is_repo t.repos (bytes_at r 2) ≡ true → IsIn (bytes_at r 2) (repo_names_of (world_of t))
  named r e =
      among (bytes_at r 2) (entries (world_of t).repos)
      (ap is_some (sym (get-entries (world_of t).repos (bytes_at r 2))) ∙ has_repo_found t (bytes_at r 2) ∙ e)

  pub grants_found : AreLevelsOver (world_of t) (repo_names_of (world_of t)) (map grant_row (sort_by by_repo_and_token t.grants))
  grants_found =
      let names = repo_names_of (world_of t) in
      subst (λ (rows : List Row). AreLevelsOver (world_of t) names (map grant_row rows))
      (sym (by_name_and_token names t.grants (rising (entries (world_of t).repos) (entries_sorted (world_of t).repos)) (weaker (λ r. is_repo t.repos (bytes_at r 2) ≡ true) (λ r. IsIn (bytes_at r 2) names) named t.grants is.agree.granted)))
      (over names)
