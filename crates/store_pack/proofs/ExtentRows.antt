-- What the queries on contents and places show of their rows.
use Rattle.std.proofs.Common.{◌≡◌, ◌∙◌, ℕ, ℤ, List, [], ◌∷◌, map, true, false, not, length, None, Some, Ok, Err, IfOk, sym, ap, subst, refl}
use Rattle.std.specs.Prelude.{◌==◌, ◌&&◌, Option, filter, find, is_some}
use Rattle.std.specs.List.{AllByRecursion}
use Rattle.std.specs.List.Sorted.{IsPermutation}
use Rattle.std.specs.Option.{option_to_list}
use Rattle.std.specs.Ordering.{is_eq}
use Rattle.sqlite_keyed.specs.Lists.{sort_by}
use Rattle.sqlite_keyed.proofs.SortLemmas.{HasNoTies}
use Rattle.sqlite_rules.proofs.ListLemmas.{all_has, all_from, has_filtered}
use Rattle.sqlite_sql.proofs.QueryLemmas.{output_cmp_total}
use Rattle.sqlite_trees.proofs.ListLemmas.{filter_all, filter_same, all_of, all_weaker, ascending-filter, ascending-map}
use Rattle.sqlite.specs.declared.types.Value.TheVariants.{Null, Int}
use Rattle.sqlite.specs.Order.{Row, column}
use Rattle.sqlite.specs.Term.{col}
use Rattle.sqlite.specs.Tree.{IsAscending, has_rowid}
use Rattle.sqlite.specs.Query.{Query, output_cmp}
use Rattle.sqlite.specs.Program.{overlay}
use Rattle.sqlite.specs.State.{State, Shown}
use Rattle.sqlite.proofs.Callers.{one_permutation, reads_as}
use Rattle.store_schema.specs.Rows.{HaveIds, natural_at}
use Rattle.store_schema.specs.Layout.{tree_of}
use Rattle.store_schema.specs.Ordered.{ordered_from}
use Rattle.store_schema.proofs.Ids.{int_eq_is, only_id}
use Rattle.store_schema.proofs.Lists.{no_permutation}
use Rattle.store_schema.proofs.Pages.{out_of}
use Rattle.store_schema.proofs.Selects.{Answer, chosen, means_command, shows, stored_here}
use Rattle.store_schema.proofs.Writes.{passes}
use Rattle.store_contents.proofs.Numbers.{number_turned}
use Rattle.store_statements.proofs.Sorted.{ordered, sort_same, number_order, number_tie}
use Rattle.store_contents.specs.PlaceTables.{places_table}
use Rattle.store_contents.specs.PlaceTexts.{by_first, by_id, content_find, place_list, place_list_all}
use Rattle.store_contents.specs.Places.{HoldsPlaces, HaveStarts, IsPlaceRow, by_start, content_rows, of_content, place_rows, places_of, same_place}
use Rattle.store_places.proofs.RemoveLemmas.{first_passes, id_passes}

-- ---- contents

settle : (f : Row → Row) (o : Option Row) (rows : List Row) → IsPermutation (map f (option_to_list o)) rows → rows ≡ map f (option_to_list o)
settle f None rows h = no_permutation rows h
settle f (Some r) rows h = one_permutation _ rows h

chosen_one : (rows : List Row) (id : ℤ) → HaveIds rows → chosen (Int id ∷ []) by_id rows ≡ option_to_list (find (has_rowid id) rows)
chosen_one rows id ids = filter_same _ _ rows (all_from _ rows (λ r has. id_passes rows id r ids has)) ∙ only_id rows id ids

-- the row of the content, or none
pub found_rows : (id : ℤ) (old new : State) (r : Answer) → HoldsPlaces old.now → IfOk r (λ rows. Shown content_find (Int id ∷ []) old new rows.items)
    → IfOk r (λ rows. rows.items ≡ map (λ r. column r 3 ∷ []) (option_to_list (find (has_rowid id) (content_rows old.now))))
found_rows id old new (Err e) is ran = tt
found_rows id old new (Ok rows) is ran =
    settle (λ r. column r 3 ∷ []) (find (has_rowid id) (content_rows old.now)) rows.items
    (subst (λ xs. IsPermutation (map (λ r. column r 3 ∷ []) xs) rows.items) (chosen_one (content_rows old.now) id is.content_ids)
    (shows old.now.schema content_find _ _ by_id _ (Int id ∷ []) old new rows.items refl is.known.content_texts.find is.known.contents.stored ran))

pub some_shown : (f : Row → Row) (o : Option Row) (rows : List Row) → rows ≡ map f (option_to_list o) → not (length rows == 0) ≡ is_some o
some_shown f None rows e = ap (λ (l : List Row). not (length l == 0)) e
some_shown f (Some r) rows e = ap (λ (l : List Row). not (length l == 0)) e

-- ---- places

abbrev pub place_shown : Row → Row
place_shown r = column r 3 ∷ column r 4 ∷ []

-- those of all contents
pub all_rows : (old new : State) (r : Answer) → HoldsPlaces old.now → IfOk r (λ rows. Shown place_list_all [] old new rows.items) → IfOk r (λ rows. IsPermutation (map place_shown (place_rows old.now)) rows.items)
all_rows old new (Err e) is ran = tt
all_rows old new (Ok rows) is ran =
    subst (λ xs. IsPermutation (map place_shown xs) rows.items) (filter_all (λ _. true) _ (all_of _ (λ r. refl) _))
    (shows old.now.schema place_list_all _ _ [] _ [] old new rows.items refl is.known.place_texts.list_all is.known.places.stored ran)

-- those of one, in the order of where they begin

abbrev of_list : ℕ → Query
of_list tree = ordered_from tree by_first (col 1 3 ∷ col 1 4 ∷ []) 2

abbrev IsOf : ℤ → Row → Type 0
IsOf id r = IsPlaceRow r × (of_content id r ≡ true)

starts_differ : (id : ℤ) (x y : Row) → of_content id x ≡ true → of_content id y ≡ true → same_place x y ≡ false → (natural_at x 2 == natural_at y 2) ≡ false
starts_differ id x y e f apart = number_turned (natural_at x 2) (natural_at y 2) ∙ sym (ap (λ b. b && natural_at y 2 == natural_at x 2) (ap (λ i. of_content i y) (int_eq_is _ _ e) ∙ f)) ∙ apart

starts_compared : (tree : ℕ) (params : Row) (id : ℤ) (a b : Row) → IsOf id a → IsOf id b → output_cmp (of_list tree) (out_of (of_list tree) params a) (out_of (of_list tree) params b) ≡ by_start a b
starts_compared tree params id a b x y = number_order (column a 2) (column b 2) _ _ x.0.start y.0.start

no_ties : (tree : ℕ) (params : Row) (id : ℤ) (xs : List Row) → AllByRecursion (IsOf id) xs → HaveStarts xs
    → IsAscending (λ a b. is_eq (output_cmp (of_list tree) (out_of (of_list tree) params a) (out_of (of_list tree) params b)) ≡ false) xs
no_ties tree params id [] all up = tt
no_ties tree params id (x ∷ xs) all up = (later xs all.1 up.0, no_ties tree params id xs all.1 up.1)
  where
    later : (ys : List Row) → AllByRecursion (IsOf id) ys → AllByRecursion (λ y. same_place x y ≡ false) ys
        → AllByRecursion (λ y. is_eq (output_cmp (of_list tree) (out_of (of_list tree) params x) (out_of (of_list tree) params y)) ≡ false) ys
    later [] h apart = tt
    later (y ∷ ys) h apart = (
      ap is_eq (starts_compared tree params id x y all.0 h.0) ∙ number_tie (natural_at x 2) (natural_at y 2) ∙ starts_differ id x y all.0.1 h.0.1 apart.0,
      later ys h.1 apart.1,
    )

in_order : (tree : ℕ) (params : Row) (id : ℤ) (table some rows : List Row) → AllByRecursion IsPlaceRow table → HaveStarts table → some ≡ filter (of_content id) table
    → (HasNoTies (output_cmp (of_list tree)) (output_cmp_total (of_list tree)) (map (out_of (of_list tree) params) some)
    → rows ≡ map place_shown (sort_by (λ a b. output_cmp (of_list tree) (out_of (of_list tree) params a) (out_of (of_list tree) params b)) some))
    → rows ≡ map place_shown (places_of table id)
in_order tree params id table some rows types apart e sorted =
    let p = of_content id in
    let all : AllByRecursion (IsOf id) (filter p table) = all_from _ (filter p table) (λ r has. let it = has_filtered p table r has in (all_has IsPlaceRow table r types it.0, it.1)) in
    let untied = no_ties tree params id (filter p table) all (ascending-filter (λ a b. same_place a b ≡ false) p table apart) in
    sorted (subst (λ xs. HasNoTies (output_cmp (of_list tree)) (output_cmp_total (of_list tree)) (map (out_of (of_list tree) params) xs)) (sym e) (ascending-map (λ a b. is_eq (output_cmp (of_list tree) a b) ≡ false) (out_of (of_list tree) params) (filter p table) untied))
    ∙ ap (λ xs. map place_shown (sort_by (λ a b. output_cmp (of_list tree) (out_of (of_list tree) params a) (out_of (of_list tree) params b)) xs)) e
    ∙ ap (map place_shown) (sort_same (IsOf id) _ by_start (starts_compared tree params id) (filter p table) all)

listed : (id : ℤ) (old new : State) (rows : List Row) → HoldsPlaces old.now → Shown place_list (Int id ∷ []) old new rows → rows ≡ map place_shown (places_of (place_rows old.now) id)
listed id old new rows is ran =
    let tree = tree_of old.now.schema places_table in
    let params = Int id ∷ [] in
    let means = is.known.place_texts.list in
    let read = reads_as place_list params old new old.now.schema refl _ (means_command old.now.schema place_list _ means) means.plain means.unlisted rows ran in
    in_order tree params id (place_rows old.now) _ rows is.places is.apart
    (ap (chosen params by_first) (stored_here tree old.now.trees is.known.places.stored)
    ∙ filter_same _ _ _ (all_weaker IsPlaceRow (λ r. passes params by_first r ≡ of_content id r) (first_passes id) _ is.places))
    (λ apart. ordered tree 2 _ _ (overlay old.now.trees []) params rows apart (read.answer Null))

pub list_rows : (id : ℤ) (old new : State) (r : Answer) → HoldsPlaces old.now → IfOk r (λ rows. Shown place_list (Int id ∷ []) old new rows.items) → IfOk r (λ rows. rows.items ≡ map place_shown (places_of (place_rows old.now) id))
list_rows id old new (Err e) is ran = tt
list_rows id old new (Ok rows) is ran = listed id old new rows.items is ran
