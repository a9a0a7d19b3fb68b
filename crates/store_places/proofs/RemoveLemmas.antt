-- A content is taken out with its places.
use Rattle.std.proofs.Common.{◌≡◌, ℕ, ℤ, List, [], ◌∷◌, Bool, true, false, cond, not, None, Option, Ok, Err, Result, OnOk, refl, sym, ap, subst, ◌∙◌}
use Rattle.std.specs.Prelude.{find, filter, is_some, option_map, IsTrue}
use Rattle.std.specs.List.{AllByRecursion}
use Rattle.std.specs.Ordering.{int_eq}
use Rattle.sqlite.specs.declared.types.Value.TheVariants.{Int}
use Rattle.sqlite.specs.declared.error.Error.{Error}
use Rattle.sqlite.specs.Order.{Row, column}
use Rattle.sqlite.specs.Table.{Table}
use Rattle.sqlite.specs.Tree.{rowid, has_rowid}
use Rattle.sqlite.specs.Effect.{Database}
use Rattle.sqlite.specs.State.{State, Executes, ExecutesInside}
use Rattle.sqlite_rules.specs.Lists.{Has}
use Rattle.sqlite_rules.proofs.ListLemmas.{all_from, all_has}
use Rattle.sqlite_trees.proofs.ListLemmas.{filter_same, filter-filter, all-filter, ascending-filter}
use Rattle.sqlite_trees.proofs.TreeLemmas.{IsShaped-filter}
use Rattle.sqlite_trees.specs.declared.store.Shape.TheVariants as shape
use Rattle.sqlite_keyed.specs.Lists.{sort_by}
use Rattle.store_schema.specs.Rows.{HaveIds, integer_at}
use Rattle.store_schema.specs.Layout.{tree_of, placed}
use Rattle.store_schema.proofs.Lists.{find_left}
use Rattle.store_schema.proofs.Ids.{rowid_test, rowid_is, rowid_passed, int_eq-sym, int_eq_is}
use Rattle.store_schema.proofs.Selects.{is_int, one_test}
use Rattle.store_schema.proofs.Writes.{passes, deletes, removes, Removes as Takes, keeps_others, rows_in}
use Rattle.store_contents.specs.PlaceTables.{pack_table, contents_table, places_table}
use Rattle.store_contents.specs.PlaceTexts.{KnowsPlaces, content_remove, place_remove, by_id, by_first}
use Rattle.store_contents.specs.Places.{HoldsPlaces, IsContentRow, IsPlaceRow, AreOwned, HaveStarts, same_place, by_start, of_content, places_of, joined, bytes_in, content_rows, place_rows}
use Rattle.store_places.specs.Places.{IsInside, Removes, RemovesPlaces, RemovesRow}
use Rattle.store_places.proofs.WorldLemmas.{around_both, around_contents, around_places}

-- ---- the places

pub first_passes : (id : ℤ) (r : Row) → IsPlaceRow r → passes (Int id ∷ []) by_first r ≡ of_content id r
first_passes id r it = one_test _ _ (is_int (column r 1) (integer_at r 1) id it.content) ∙ rowid_test id (integer_at r 1) (column r 1) it.content

module _ (old new : State) (id : ℤ) (n : ℕ) (is : HoldsPlaces old.now) (h : Executes place_remove (Int id ∷ []) old new (Ok n)) where
  abbrev place_table : Table
  place_table = placed old.now.schema places_table

  places_gone : Takes old.now.schema place_table (passes (Int id ∷ []) by_first) old new
  places_gone = removes old.now.schema place_table by_first (Int id ∷ []) old new n is.place_ids is.known.places_alone
      (deletes old.now.schema is.known.places.at place_table is.known.places.place is.known.places.stored place_remove by_first (Int id ∷ []) old new refl n h is.known.place_texts.remove)

  pub places_removed : RemovesPlaces old.now new.now id
  places_removed =
      let keeps = keeps_others places_table old.now new.now place_table.tree refl places_gone.ran.schema_is places_gone.tables in
      record {
        places = ap (λ s. new.now.trees (tree_of s places_table)) places_gone.ran.schema_is ∙ places_gone.rows
            ∙ filter_same _ _ _ (all_from _ _ (λ r has. ap not (first_passes id r (all_has IsPlaceRow (place_rows old.now) r is.places has))));
        contents = rows_in old.now new.now places_table contents_table is.known.contents keeps (λ e. is.known.apart (sym e));
        others = keeps;
      }

  pub places_hold : HoldsPlaces new.now
  places_hold =
      let gone = places_removed in
      let left : Row → Bool = λ r. not (of_content id r) in
      record {
        known = subst KnowsPlaces (sym places_gone.ran.schema_is) is.known;
        contents = subst (AllByRecursion IsContentRow) (sym gone.contents) is.contents;
        places = subst (AllByRecursion IsPlaceRow) (sym gone.places) (all-filter IsPlaceRow left (place_rows old.now) is.places);
        content_ids = subst HaveIds (sym gone.contents) is.content_ids;
        place_ids = subst HaveIds (sym gone.places) (IsShaped-filter shape.Table left (place_rows old.now) is.place_ids);
        pack_ids = subst HaveIds (sym (rows_in old.now new.now places_table pack_table is.known.pack gone.others is.known.pack_apart.1)) is.pack_ids;
        owned = subst (AreOwned (content_rows new.now)) (sym gone.places)
            (all-filter (λ r. IsTrue (is_some (find (has_rowid (integer_at r 1)) (content_rows new.now)))) left (place_rows old.now) (subst (λ rows. AreOwned rows (place_rows old.now)) (sym gone.contents) is.owned));
        apart = subst HaveStarts (sym gone.places) (ascending-filter (λ a b. same_place a b ≡ false) left (place_rows old.now) is.apart);
      }

-- ---- its row

pub id_passes : (rows : List Row) (id : ℤ) (r : Row) → HaveIds rows → Has rows r → passes (Int id ∷ []) by_id r ≡ has_rowid id r
id_passes rows id r ids has = one_test _ _ (is_int (column r 0) _ id (rowid_is rows r ids has))

module _ (rows : List Row) (id : ℤ) (ids : HaveIds rows) where
  agrees : (i : ℤ) (r : Row) → Has rows r → has_rowid i r ≡ true → has_rowid id r ≡ int_eq id i
  agrees i r has e = rowid_test id i (rowid r) (rowid_passed rows r i ids has e) ∙ int_eq-sym i id

  found_left : (i : ℤ) → find (has_rowid i) (filter (λ r. not (has_rowid id r)) rows) ≡ cond (int_eq id i) None (find (has_rowid i) rows)
  found_left i = find_left (has_rowid id) (has_rowid i) (int_eq id i) rows (agrees i)

  -- the content of a place that is not of this one is there still
  owned_left : (places : List Row) → filter (of_content id) places ≡ [] → AreOwned rows places → AreOwned (filter (λ r. not (has_rowid id r)) rows) places
  owned_left [] none owned = tt
  owned_left (r ∷ rs) none owned = by (of_content id r) refl none (owned_left rs)
    where
      by : (b : Bool) → of_content id r ≡ b → cond b (r ∷ filter (of_content id) rs) (filter (of_content id) rs) ≡ []
          → (filter (of_content id) rs ≡ [] → AreOwned rows rs → AreOwned (filter (λ x. not (has_rowid id x)) rows) rs)
          → AreOwned (filter (λ x. not (has_rowid id x)) rows) (r ∷ rs)
      by true e none more = absurd (let x = none in cc)
      by false e none more = (
        subst (λ (o : Option Row). IsTrue (is_some o)) (sym (found_left (integer_at r 1) ∙ ap (λ b. cond b None (find (has_rowid (integer_at r 1)) rows)) (int_eq-sym id (integer_at r 1) ∙ e))) owned.0,
        more none owned.1,
      )

module _ (old new : State) (id : ℤ) (n : ℕ) (is : HoldsPlaces old.now) (none : filter (of_content id) (place_rows old.now) ≡ []) (h : Executes content_remove (Int id ∷ []) old new (Ok n)) where
  abbrev content_table : Table
  content_table = placed old.now.schema contents_table

  row_gone : Takes old.now.schema content_table (passes (Int id ∷ []) by_id) old new
  row_gone = removes old.now.schema content_table by_id (Int id ∷ []) old new n is.content_ids is.known.contents_alone
      (deletes old.now.schema is.known.contents.at content_table is.known.contents.place is.known.contents.stored content_remove by_id (Int id ∷ []) old new refl n h is.known.content_texts.remove)

  pub row_removed : RemovesRow old.now new.now id
  row_removed =
      let keeps = keeps_others contents_table old.now new.now content_table.tree refl row_gone.ran.schema_is row_gone.tables in
      record {
        contents = ap (λ s. new.now.trees (tree_of s contents_table)) row_gone.ran.schema_is ∙ row_gone.rows
            ∙ filter_same _ _ _ (all_from _ _ (λ r has. ap not (id_passes (content_rows old.now) id r is.content_ids has)));
        places = rows_in old.now new.now contents_table places_table is.known.places keeps is.known.apart;
        others = keeps;
      }

  pub row_holds : HoldsPlaces new.now
  row_holds =
      let gone = row_removed in
      let left : Row → Bool = λ r. not (has_rowid id r) in
      record {
        known = subst KnowsPlaces (sym row_gone.ran.schema_is) is.known;
        contents = subst (AllByRecursion IsContentRow) (sym gone.contents) (all-filter IsContentRow left (content_rows old.now) is.contents);
        places = subst (AllByRecursion IsPlaceRow) (sym gone.places) is.places;
        content_ids = subst HaveIds (sym gone.contents) (IsShaped-filter shape.Table left (content_rows old.now) is.content_ids);
        place_ids = subst HaveIds (sym gone.places) is.place_ids;
        pack_ids = subst HaveIds (sym (rows_in old.now new.now contents_table pack_table is.known.pack gone.others is.known.pack_apart.0)) is.pack_ids;
        owned = subst (AreOwned (content_rows new.now)) (sym gone.places) (subst (λ rows. AreOwned rows (place_rows old.now)) (sym gone.contents) (owned_left (content_rows old.now) id is.content_ids (place_rows old.now) none is.owned));
        apart = subst HaveStarts (sym gone.places) is.apart;
      }

-- ---- the same of a call's result, inside a transaction

pub places_removed_by : (old new : State) (id : ℤ) (r : Result ℕ Error) → HoldsPlaces old.now → ExecutesInside 0 place_remove (Int id ∷ []) old new r → OnOk r (RemovesPlaces old.now new.now id × IsInside new)
places_removed_by old new id (Err e) is h = tt
places_removed_by old new id (Ok n) is h = (places_removed old new id n is h.0, record { inside = h.1.mode; holds = places_hold old new id n is h.0 })

pub row_removed_by : (old new : State) (id : ℤ) (r : Result ℕ Error) → HoldsPlaces old.now → filter (of_content id) (place_rows old.now) ≡ [] → ExecutesInside 0 content_remove (Int id ∷ []) old new r → OnOk r (RemovesRow old.now new.now id × IsInside new)
row_removed_by old new id (Err e) is none h = tt
row_removed_by old new id (Ok n) is none h = (row_removed old new id n is none h.0, record { inside = h.1.mode; holds = row_holds old new id n is none h.0 })

-- ---- both

neither : (id j : ℤ) → int_eq id j ≡ false → (r : Row) → of_content j r ≡ true → not (of_content id r) ≡ true
neither id j apart r e =
    let same : integer_at r 1 ≡ j = int_eq_is _ _ e in
    ap not (ap (λ i. int_eq i id) same ∙ int_eq-sym j id ∙ apart)

-- none of them is left
pub none_left : (rows : List Row) (id : ℤ) → filter (of_content id) (filter (λ r. not (of_content id r)) rows) ≡ []
none_left [] id = refl
none_left (r ∷ rs) id = by (of_content id r) refl (none_left rs id)
  where
    by : (b : Bool) → of_content id r ≡ b → filter (of_content id) (filter (λ x. not (of_content id x)) rs) ≡ []
        → filter (of_content id) (cond (not b) (r ∷ filter (λ x. not (of_content id x)) rs) (filter (λ x. not (of_content id x)) rs)) ≡ []
    by true e more = more
    by false e more = ap (λ b. cond b (r ∷ filter (of_content id) (filter (λ x. not (of_content id x)) rs)) (filter (of_content id) (filter (λ x. not (of_content id x)) rs))) e ∙ more

pub removed_both : (old mid new : Database) (id : ℤ) → HaveIds (content_rows old) → RemovesPlaces old mid id → RemovesRow mid new id → Removes old new id
removed_both old mid new id ids first then = record {
  rows = found;
  bytes = λ file i. by file i (int_eq id i) refl;
  places = then.places ∙ first.places;
  others = around_both old mid new (around_places old mid first.others) (around_contents mid new then.others);
}
  where
    found : (i : ℤ) → find (has_rowid i) (content_rows new) ≡ cond (int_eq id i) None (find (has_rowid i) (content_rows old))
    found i = ap (find (has_rowid i)) (then.contents ∙ ap (filter (λ r. not (has_rowid id r))) first.contents) ∙ found_left (content_rows old) id ids i

    by : (file : List ℕ) (i : ℤ) (b : Bool) → int_eq id i ≡ b → bytes_in new file i ≡ cond b None (bytes_in old file i)
    by file i true e = ap (option_map (λ _. joined file (places_of (place_rows new) i))) (found i ∙ ap (λ b. cond b None (find (has_rowid i) (content_rows old))) e)
    by file i false e =
        ap (option_map (λ _. joined file (places_of (place_rows new) i))) (found i ∙ ap (λ b. cond b None (find (has_rowid i) (content_rows old))) e)
        ∙ ap (λ rows. option_map (λ _. joined file (sort_by by_start rows)) (find (has_rowid i) (content_rows old)))
        (ap (filter (of_content i)) (then.places ∙ first.places) ∙ filter-filter (of_content i) (λ r. not (of_content id r)) (neither id i e) (place_rows old))

pub removed_row_then : (old mid : Database) (new : State) (id : ℤ) {F : Type 0} (r : Result (Rattle.std.specs.Prelude.⊤) F) → HaveIds (content_rows old) → RemovesPlaces old mid id → OnOk r (RemovesRow mid new.now id × IsInside new) → OnOk r (Removes old new.now id × IsInside new)
removed_row_then old mid new id (Err e) ids first then = tt
removed_row_then old mid new id (Ok x) ids first then = (removed_both old mid new.now id ids first then.0, then.1)
