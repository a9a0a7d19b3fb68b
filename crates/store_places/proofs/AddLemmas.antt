-- The row of a content is put in, and that of a place.
use Rattle.std.proofs.Common.{◌≡◌, ℕ, ℤ, pos, List, [], ◌∷◌, ◌++◌, Bool, true, false, cond, Some, Ok, Err, Result, OnOk, refl, sym, ap, subst, ◌∙◌, arith}
use Rattle.std.specs.Prelude.{◌<◌, ◌==◌, ◌&&◌, filter, find, is_some, IsTrue}
use Rattle.std.specs.Ordering.{int_eq}
use Rattle.std.proofs.lemmas.Bool.{eqb-true}
use Rattle.store_contents.proofs.Numbers.{number_turned}
use Rattle.std.specs.List.{AllByRecursion}
use Rattle.sqlite.specs.declared.types.Value.TheVariants.{Null, Int, Text}
use Rattle.sqlite.specs.Order.{Row}
use Rattle.sqlite.specs.Ops.{unary}
use Rattle.sqlite.specs.Table.{Table}
use Rattle.sqlite.specs.Schema.{Schema}
use Rattle.sqlite.specs.Cast.{cast_row}
use Rattle.sqlite.specs.Tree.{has_rowid}
use Rattle.sqlite.specs.State.{State, Executes, ExecutesInside}
use Rattle.sqlite.specs.declared.error.Error.{Error}
use Rattle.store_schema.specs.Rows.{HaveIds, PutsRow, integer_at, natural_at}
use Rattle.store_schema.specs.Layout.{tree_of, placed}
use Rattle.store_schema.proofs.Lists.{all_middle, ascending_middle}
use Rattle.store_schema.proofs.Ids.{not_taken_found, int_eq-sym}
use Rattle.store_schema.proofs.Writes.{either, inserts, adds_row, AddsRow, keeps_others, rows_in}
use Rattle.store_contents.specs.PlaceTables.{pack_table, contents_table, places_table}
use Rattle.store_contents.specs.PlaceTexts.{KnowsPlaces, content_add, content_add_terms, place_add, place_add_terms}
use Rattle.store_contents.specs.Places.{HoldsPlaces, IsContentRow, IsPlaceRow, AreOwned, HaveStarts, same_place, of_content, content_rows, place_rows}
use Rattle.store_places.specs.Places.{AreBefore, IsInside, PutsContent, PutsPlace, content_columns, place_columns, has_content}

-- ---- rows that are found still

found_still : (p : Row → Bool) (x : Row) (xs ys : List Row) → IsTrue (is_some (find p (xs ++ ys))) → IsTrue (is_some (find p (xs ++ x ∷ ys)))
found_still p x [] ys h = by (p x)
  where
    by : (b : Bool) → IsTrue (is_some (cond b (Some x) (find p ys)))
    by true = refl
    by false = h
found_still p x (y ∷ xs) ys h = by (p y) h (found_still p x xs ys)
  where
    by : (b : Bool) → IsTrue (is_some (cond b (Some y) (find p (xs ++ ys)))) → (IsTrue (is_some (find p (xs ++ ys))) → IsTrue (is_some (find p (xs ++ x ∷ ys))))
        → IsTrue (is_some (cond b (Some y) (find p (xs ++ x ∷ ys))))
    by true e more = refl
    by false e more = more e

owned_still : (olds news places : List Row) (id : ℤ) (columns : Row) → PutsRow olds news id columns → AreOwned olds places → AreOwned news places
owned_still olds news [] id columns put owned = tt
owned_still olds news (r ∷ rs) id columns put owned = (
  subst (λ rows. IsTrue (is_some (find (has_rowid (integer_at r 1)) rows))) (sym put.news_are)
      (found_still (has_rowid (integer_at r 1)) _ put.before put.after (subst (λ rows. IsTrue (is_some (find (has_rowid (integer_at r 1)) rows))) put.olds_are owned.0)),
  owned_still olds news rs id columns put owned.1,
)

-- ---- the row of a content

cast_content : (schema : Schema) (sha256 : List ℕ) (size : ℕ) → cast_row (placed schema contents_table) (Null ∷ content_columns sha256 size) ≡ Null ∷ content_columns sha256 size
unfolding unary
cast_content schema sha256 size = rw (either, either)

module _ (old new : State) (sha256 : List ℕ) (size n : ℕ) (is : HoldsPlaces old.now) (h : Executes content_add (Text sha256 ∷ Int (pos size) ∷ []) old new (Ok n)) where
  abbrev content_table : Table
  content_table = placed old.now.schema contents_table

  content_added : AddsRow old.now.schema content_table (content_columns sha256 size) old new
  content_added = adds_row old.now.schema content_table (content_columns sha256 size) old new (cast_content old.now.schema sha256 size)
      (inserts old.now.schema is.known.contents.at content_table is.known.contents.place content_add (Text sha256 ∷ Int (pos size) ∷ []) old new refl refl refl content_add_terms 4 is.known.content_texts.add n h)

  contents_here : content_rows new.now ≡ new.now.trees content_table.tree
  contents_here = ap (λ s. new.now.trees (tree_of s contents_table)) content_added.ran.schema_is

  pub content_put : PutsContent old.now new.now new.last_rowid sha256 size
  content_put =
      let keeps = keeps_others contents_table old.now new.now content_table.tree refl content_added.ran.schema_is content_added.tables in
      record {
        free = not_taken_found (content_rows old.now) new.last_rowid (content_columns sha256 size) content_added.fresh;
        puts = subst (λ rs. PutsRow (content_rows old.now) rs new.last_rowid (content_columns sha256 size)) (sym contents_here) content_added.puts;
        places = rows_in old.now new.now contents_table places_table is.known.places keeps is.known.apart;
        others = keeps;
      }

  pub content_holds : HoldsPlaces new.now
  content_holds =
      let put = content_put in
      record {
        known = subst KnowsPlaces (sym content_added.ran.schema_is) is.known;
        contents = subst (AllByRecursion IsContentRow) (sym put.puts.news_are)
            (all_middle IsContentRow _ put.puts.before put.puts.after (subst (AllByRecursion IsContentRow) put.puts.olds_are is.contents) (record { sha256 = refl; size = refl }));
        places = subst (AllByRecursion IsPlaceRow) (sym put.places) is.places;
        content_ids = subst HaveIds (sym contents_here) (content_added.ids is.content_ids);
        place_ids = subst HaveIds (sym put.places) is.place_ids;
        pack_ids = subst HaveIds (sym (rows_in old.now new.now contents_table pack_table is.known.pack put.others is.known.pack_apart.0)) is.pack_ids;
        owned = subst (AreOwned (content_rows new.now)) (sym put.places) (owned_still (content_rows old.now) (content_rows new.now) (place_rows old.now) _ _ put.puts is.owned);
        apart = subst HaveStarts (sym put.places) is.apart;
      }

-- ---- the row of a place

number_apart : (m n : ℕ) → m < n → (m == n) ≡ false
number_apart m n low = by (m == n) refl
  where
    by : (b : Bool) → (m == n) ≡ b → (m == n) ≡ false
    by true e = absurd (omega (arith, low, eqb-true m n e))
    by false e = e

-- one that begins behind all those of its content is apart from each
starts_later : (id : ℤ) (start : ℕ) (rows : List Row) → AreBefore start (filter (of_content id) rows) → AllByRecursion (λ r. of_content id r && natural_at r 2 == start ≡ false) rows
starts_later id start [] before = tt
starts_later id start (r ∷ rs) before = by (of_content id r) before (starts_later id start rs)
  where
    differs : natural_at r 2 < start → (natural_at r 2 == start) ≡ false
    differs low = number_apart (natural_at r 2) start low

    by : (b : Bool) → AreBefore start (cond b (r ∷ filter (of_content id) rs) (filter (of_content id) rs)) → (AreBefore start (filter (of_content id) rs) → AllByRecursion (λ x. of_content id x && natural_at x 2 == start ≡ false) rs)
        → (b && natural_at r 2 == start ≡ false) × AllByRecursion (λ x. of_content id x && natural_at x 2 == start ≡ false) rs
    by true all more = (differs all.0, more all.1)
    by false all more = (refl, more all)

place_turned : (a b : Row) → same_place a b ≡ same_place b a
place_turned a b = ap (λ x. x && natural_at b 2 == natural_at a 2) (int_eq-sym (integer_at b 1) (integer_at a 1)) ∙ ap (λ x. int_eq (integer_at a 1) (integer_at b 1) && x) (number_turned (natural_at b 2) (natural_at a 2))

cast_place : (schema : Schema) (id : ℤ) (start at size : ℕ) → cast_row (placed schema places_table) (Null ∷ place_columns id start at size) ≡ Null ∷ place_columns id start at size
unfolding unary
cast_place schema id start at size = rw (either, either, either, either, either)

module _ (old new : State) (id : ℤ) (start at size n : ℕ) (is : HoldsPlaces old.now) (there : has_content old.now id) (before : AreBefore start (filter (of_content id) (place_rows old.now))) (h : Executes place_add (place_columns id start at size) old new (Ok n)) where
  abbrev place_table : Table
  place_table = placed old.now.schema places_table

  place_added : AddsRow old.now.schema place_table (place_columns id start at size) old new
  place_added = adds_row old.now.schema place_table (place_columns id start at size) old new (cast_place old.now.schema id start at size)
      (inserts old.now.schema is.known.places.at place_table is.known.places.place place_add (place_columns id start at size) old new refl refl refl place_add_terms 5 is.known.place_texts.add n h)

  places_here : place_rows new.now ≡ new.now.trees place_table.tree
  places_here = ap (λ s. new.now.trees (tree_of s places_table)) place_added.ran.schema_is

  pub place_put : PutsPlace old.now new.now id start at size
  place_put =
      let keeps = keeps_others places_table old.now new.now place_table.tree refl place_added.ran.schema_is place_added.tables in
      record {
        rowid = new.last_rowid;
        puts = subst (λ rs. PutsRow (place_rows old.now) rs new.last_rowid (place_columns id start at size)) (sym places_here) place_added.puts;
        contents = rows_in old.now new.now places_table contents_table is.known.contents keeps (λ e. is.known.apart (sym e));
        others = keeps;
      }

  pub place_holds : HoldsPlaces new.now
  place_holds =
      let put = place_put in
      record {
        known = subst KnowsPlaces (sym place_added.ran.schema_is) is.known;
        contents = subst (AllByRecursion IsContentRow) (sym put.contents) is.contents;
        places = subst (AllByRecursion IsPlaceRow) (sym put.puts.news_are)
            (all_middle IsPlaceRow _ put.puts.before put.puts.after (subst (AllByRecursion IsPlaceRow) put.puts.olds_are is.places) (record { content = refl; start = refl; size = refl; at = refl }));
        content_ids = subst HaveIds (sym put.contents) is.content_ids;
        place_ids = subst HaveIds (sym places_here) (place_added.ids is.place_ids);
        pack_ids = subst HaveIds (sym (rows_in old.now new.now places_table pack_table is.known.pack put.others is.known.pack_apart.1)) is.pack_ids;
        owned = subst (AllByRecursion (λ r. IsTrue (is_some (find (has_rowid (integer_at r 1)) (content_rows new.now))))) (sym put.puts.news_are)
            (all_middle (λ r. IsTrue (is_some (find (has_rowid (integer_at r 1)) (content_rows new.now)))) _ put.puts.before put.puts.after
            (subst (AllByRecursion (λ r. IsTrue (is_some (find (has_rowid (integer_at r 1)) (content_rows new.now))))) put.puts.olds_are
            (subst (λ rows. AreOwned rows (place_rows old.now)) (sym put.contents) is.owned))
            (subst (λ rows. IsTrue (is_some (find (has_rowid id) rows))) (sym put.contents) there));
        apart = subst HaveStarts (sym put.puts.news_are)
            (ascending_middle (λ a b. same_place a b ≡ false) (λ a b e. place_turned b a ∙ e) _ put.puts.before put.puts.after (subst HaveStarts put.puts.olds_are is.apart)
            (subst (AllByRecursion (λ r. same_place (Int put.rowid ∷ place_columns id start at size) r ≡ false)) put.puts.olds_are (starts_later id start (place_rows old.now) before)));
      }

-- the same of a call's result, inside a transaction
pub place_put_by : (old new : State) (id : ℤ) (start at size : ℕ) (r : Result ℕ Error) → HoldsPlaces old.now → has_content old.now id → AreBefore start (filter (of_content id) (place_rows old.now)) → ExecutesInside 0 place_add (place_columns id start at size) old new r
    → OnOk r (PutsPlace old.now new.now id start at size × IsInside new)
place_put_by old new id start at size (Err e) is there before h = tt
place_put_by old new id start at size (Ok n) is there before h = (place_put old new id start at size n is there before h.0, record { inside = h.1.mode; holds = place_holds old new id start at size n is there before h.0 })
