-- The row of the pack is read, put in, and given another age.
use Rattle.std.proofs.Common.{◌≡◌, ◌≢◌, ◌∙◌, ℕ, zero, suc, slice_get, ℤ, pos, List, [], ◌∷◌, ◌++◌, map, Bool, true, cond, None, Some, Ok, Err, Result, IfOk, OnOk, inl, inr, refl, sym, ap, subst}
use Rattle.std.specs.Prelude.{Option, MatchOption, filter, find, option_map}
use Rattle.std.specs.List.{AllByRecursion}
use Rattle.std.specs.List.Sorted.{IsPermutation}
use Rattle.std.specs.Option.{option_to_list}
use Rattle.std.proofs.lemmas.List.Sorted.{IsPermutation-sym}
use Rattle.sqlite_rules.specs.Edit.{id_in}
use Rattle.sqlite_rules.specs.Lists.{Has}
use Rattle.sqlite_trees.proofs.ListLemmas.{filter_all, all_of}
use Rattle.sqlite.specs.declared.types.Value.TheVariants.{Null, Int, Blob}
use Rattle.sqlite.specs.declared.error.Error.{Error}
use Rattle.sqlite.specs.Cast.{cast_row}
use Rattle.sqlite.specs.Effect.{Database}
use Rattle.sqlite.specs.Ops.{unary}
use Rattle.sqlite.specs.Order.{Row, column}
use Rattle.sqlite.specs.Schema.{Schema}
use Rattle.sqlite.specs.State.{State, Executes, ExecutesInside, Shown}
use Rattle.sqlite.specs.Table.{Table}
use Rattle.sqlite.specs.Tree.{has_rowid, rowid}
use Rattle.sqlite.proofs.Callers.{one_permutation}
use Rattle.store_schema.specs.Layout.{KeepsOthers, placed, tree_of}
use Rattle.store_schema.specs.Rows.{HaveIds, PutsRow}
use Rattle.store_schema.proofs.Ids.{rowid_is}
use Rattle.store_schema.proofs.Lists.{no_permutation}
use Rattle.store_schema.proofs.Selects.{Answer, shows}
use Rattle.store_schema.proofs.Updates.{Sets, sets}
use Rattle.store_schema.proofs.Writes.{AddsRow, adds_row, either, inserts, keeps_others, passes, rows_in, updates}
use Rattle.store_contents.specs.PlaceTables.{contents_table, pack_table, places_table}
use Rattle.store_contents.specs.PlaceTexts.{KnowsPlaces, pack_put, pack_put_terms, pack_read, pack_set_age, pack_set_terms}
use Rattle.store_contents.specs.Places.{AreOwned, HaveStarts, HoldsPlaces, IsContentRow, IsPlaceRow, bytes_in, content_rows, joined, pack_rows, place_rows, places_of}
use Rattle.store_places.specs.Places.{IsInside, KeepsAround}
use Rattle.store_pack.specs.Pack.{PackSays, PutsPack, ShowsOnly}
use Rattle.store_pack.specs.declared.pack_row.PackRow.{PackRow}

-- ---- it is read

abbrev pub pack_shown : Row → Row
pack_shown r = column r 1 ∷ column r 2 ∷ []

pub pack_shows : (old new : State) (r : Answer) → HoldsPlaces old.now → IfOk r (λ rows. Shown pack_read [] old new rows.items) → IfOk r (λ rows. IsPermutation (map pack_shown (pack_rows old.now)) rows.items)
pack_shows old new (Err e) is ran = tt
pack_shows old new (Ok rows) is ran =
    subst (λ xs. IsPermutation (map pack_shown xs) rows.items) (filter_all (λ _. true) _ (all_of _ (λ r. refl) _))
    (shows old.now.schema pack_read _ _ [] _ [] old new rows.items refl is.known.pack_texts.read is.known.pack.stored ran)

none_there : (rows : List Row) → map pack_shown rows ≡ [] → rows ≡ []
none_there [] e = refl
none_there (r ∷ rs) e = absurd cc

one_there : (rows : List Row) (row : Row) → map pack_shown rows ≡ row ∷ [] → (r : Row) × (rows ≡ r ∷ []) × (row ≡ pack_shown r)
one_there [] row e = absurd cc
one_there (r ∷ []) row e = (r, refl, let same : row ≡ pack_shown r = cc in same)
one_there (r ∷ s ∷ rs) row e = absurd cc

pub pack_said : (db : Database) (rows : List Row) (o : Option PackRow) → IsPermutation (map pack_shown (pack_rows db)) rows → ShowsOnly rows o → MatchOption o (pack_rows db ≡ []) (λ said. PackSays db said.mark said.age)
pack_said db rows None same none = none_there (pack_rows db) (no_permutation _ (subst (λ (l : List Row). IsPermutation l (map pack_shown (pack_rows db))) none (IsPermutation-sym _ _ same)))
pack_said db rows (Some said) same only =
    let it = one_there (pack_rows db) only.0 (one_permutation only.0 _ (subst (λ (l : List Row). IsPermutation l (map pack_shown (pack_rows db))) only.1 (IsPermutation-sym _ _ same))) in
    record {
      row = it.0;
      only = it.1;
      has_mark = sym (ap (λ r. column r 0) it.2) ∙ only.2.has_mark;
      has_age = sym (ap (λ r. column r 1) it.2) ∙ only.2.has_age;
    }

-- ---- what is kept

-- the rows of the other tables are as they were
holds_still : (old new : Database) → HoldsPlaces old → KeepsOthers pack_table old new → HaveIds (pack_rows new) → (content_rows new ≡ content_rows old) × (place_rows new ≡ place_rows old) × HoldsPlaces new
holds_still old new is keeps ids =
    let contents : content_rows new ≡ content_rows old = rows_in old new pack_table contents_table is.known.contents keeps (λ e. is.known.pack_apart.0 (sym e)) in
    let places : place_rows new ≡ place_rows old = rows_in old new pack_table places_table is.known.places keeps (λ e. is.known.pack_apart.1 (sym e)) in (
      contents,
      places,
      record {
        known = subst KnowsPlaces (sym keeps.schema) is.known;
        contents = subst (AllByRecursion IsContentRow) (sym contents) is.contents;
        places = subst (AllByRecursion IsPlaceRow) (sym places) is.places;
        content_ids = subst HaveIds (sym contents) is.content_ids;
        place_ids = subst HaveIds (sym places) is.place_ids;
        pack_ids = ids;
        owned = subst (λ rows. AreOwned rows (place_rows new)) (sym contents) (subst (AreOwned (content_rows old)) (sym places) is.owned);
        apart = subst HaveStarts (sym places) is.apart;
      },
    )

cast_pack : (schema : Schema) (id : ℤ) (mark : List ℕ) (age : ℕ) → cast_row (placed schema pack_table) (Int id ∷ Blob mark ∷ Int (pos age) ∷ []) ≡ Int id ∷ Blob mark ∷ Int (pos age) ∷ []
unfolding unary
cast_pack schema id mark age = rw (either, either)

cast_new : (schema : Schema) (mark : List ℕ) (age : ℕ) → cast_row (placed schema pack_table) (Null ∷ Blob mark ∷ Int (pos age) ∷ []) ≡ Null ∷ Blob mark ∷ Int (pos age) ∷ []
unfolding unary
cast_new schema mark age = rw (either, either)

-- ---- it is put in

first_of_none : (olds news : List Row) (id : ℤ) (columns : Row) → PutsRow olds news id columns → olds ≡ [] → news ≡ (Int id ∷ columns) ∷ []
first_of_none olds news id columns put none = by put.before put.after (sym put.olds_are ∙ none) put.news_are
  where
    by : (before after : List Row) → before ++ after ≡ [] → news ≡ before ++ (Int id ∷ columns) ∷ after → news ≡ (Int id ∷ columns) ∷ []
    by [] [] e is = is
    by [] (x ∷ xs) e is = absurd (let y = e in cc)
    by (x ∷ xs) after e is = absurd (let y = e in cc)

module _ (old new : State) (mark : List ℕ) (age n : ℕ) (is : HoldsPlaces old.now) (none : pack_rows old.now ≡ []) (h : Executes pack_put (Blob mark ∷ Int (pos age) ∷ []) old new (Ok n)) where
  abbrev put_table : Table
  put_table = placed old.now.schema pack_table

  pack_added : AddsRow old.now.schema put_table (Blob mark ∷ Int (pos age) ∷ []) old new
  pack_added = adds_row old.now.schema put_table (Blob mark ∷ Int (pos age) ∷ []) old new (cast_new old.now.schema mark age)
      (inserts old.now.schema is.known.pack.at put_table is.known.pack.place pack_put (Blob mark ∷ Int (pos age) ∷ []) old new refl refl refl pack_put_terms 3 is.known.pack_texts.put n h)

  pub pack_came : PutsPack old.now new.now mark age × HoldsPlaces new.now
  pack_came =
      let keeps = keeps_others pack_table old.now new.now put_table.tree refl pack_added.ran.schema_is pack_added.tables in
      let here : pack_rows new.now ≡ new.now.trees put_table.tree = ap (λ s. new.now.trees (tree_of s pack_table)) pack_added.ran.schema_is in
      let all = holds_still old.now new.now is keeps (subst HaveIds (sym here) (pack_added.ids is.pack_ids)) in (
        record {
          says = record {
            row = Int new.last_rowid ∷ Blob mark ∷ Int (pos age) ∷ [];
            only = here ∙ first_of_none _ _ new.last_rowid (Blob mark ∷ Int (pos age) ∷ []) pack_added.puts none;
            has_mark = refl;
            has_age = refl;
          };
          contents = all.0;
          places = all.1;
          others = keeps;
          holds = all.2;
        },
        all.2,
      )

-- ---- another age

abbrev with_age : ℕ → Row → Row
with_age age r = column r 0 ∷ column r 1 ∷ Int (pos age) ∷ []

module _ (old new : State) (mark : List ℕ) (was age n : ℕ) (is : HoldsPlaces old.now) (says : PackSays old.now mark was) (h : Executes pack_set_age (Int (pos age) ∷ []) old new (Ok n)) where
  abbrev set_table : Table
  set_table = placed old.now.schema pack_table

  abbrev p : Row → Bool
  p = passes (Int (pos age) ∷ []) []

  one_passes : filter p (pack_rows old.now) ≡ option_to_list (find p (pack_rows old.now))
  one_passes = subst (λ rows. filter p rows ≡ option_to_list (find p rows)) (sym says.only) refl

  is_one : (r : Row) → Has (pack_rows old.now) r → r ≡ says.row
  is_one r has = only (subst (λ rows. Has rows r) says.only has)
    where
      only : Has (says.row ∷ []) r → r ≡ says.row
      only (inl e) = e
      only (inr none) = absurd none

  casts : (r : Row) → Has (pack_rows old.now) r → p r ≡ true → cast_row set_table (with_age age r) ≡ with_age age r
  casts r has e = rw (rowid_is (pack_rows old.now) r is.pack_ids has, ap (λ x. column x 1) (is_one r has) ∙ says.has_mark) (cast_pack old.now.schema (id_in (rowid r)) mark age)

  pack_set : Sets old.now.schema set_table p (with_age age) old new n
  pack_set = sets old.now.schema set_table [] pack_set_terms (Int (pos age) ∷ []) (with_age age) old new n is.pack_ids one_passes (λ r. refl) (λ r. refl) casts (λ x y. is.known.pack_alone (x ∷ []) (y ∷ []))
      (updates old.now.schema is.known.pack.at set_table is.known.pack.place is.known.pack.stored pack_set_age [] (Int (pos age) ∷ []) old new refl n h pack_set_terms is.known.pack_texts.set_age)

  pub age_set : PutsPack old.now new.now mark age × HoldsPlaces new.now
  age_set =
      let keeps = keeps_others pack_table old.now new.now set_table.tree refl pack_set.ran.schema_is pack_set.tables in
      let here : pack_rows new.now ≡ with_age age says.row ∷ [] =
      ap (λ s. new.now.trees (tree_of s pack_table)) pack_set.ran.schema_is ∙ pack_set.rows ∙ ap (map (λ r. cond (p r) (with_age age r) r)) says.only in
      let ids : HaveIds (says.row ∷ []) = subst HaveIds says.only is.pack_ids in
      let all = holds_still old.now new.now is keeps (subst HaveIds (sym here) ids) in (
        record {
          says = record { row = with_age age says.row; only = here; has_mark = says.has_mark; has_age = refl };
          contents = all.0;
          places = all.1;
          others = keeps;
          holds = all.2;
        },
        all.2,
      )

-- ---- the pack and the contents keep out of each other's way

-- whoever writes contents and places alone keeps the row of the pack
pub pack_around : (old new : Database) → KnowsPlaces old.schema → KeepsAround old new → pack_rows new ≡ pack_rows old
pack_around old new known keeps = ap (λ s. new.trees (tree_of s pack_table)) keeps.schema ∙ at_tables old.schema.tables known.pack.at keeps.tables known.pack.place
  where
    at_tables : (tables : List Table) (at : ℕ) → AllByRecursion (λ (t : Table). t.tree ≢ tree_of old.schema contents_table → t.tree ≢ tree_of old.schema places_table → new.trees t.tree ≡ old.trees t.tree) tables
        → slice_get tables at ≡ Some (placed old.schema pack_table) → new.trees (tree_of old.schema pack_table) ≡ old.trees (tree_of old.schema pack_table)
    at_tables [] at h e = absurd cc
    at_tables (t ∷ ts) zero h e =
        let same : t ≡ placed old.schema pack_table = cc in
        subst (λ (x : Table). x.tree ≢ tree_of old.schema contents_table → x.tree ≢ tree_of old.schema places_table → new.trees x.tree ≡ old.trees x.tree) same h.0 known.pack_apart.0 known.pack_apart.1
    at_tables (t ∷ ts) (suc at) h e = at_tables ts at h.1 e

pub says_still : (old new : Database) (mark : List ℕ) (age : ℕ) → pack_rows new ≡ pack_rows old → PackSays old mark age → PackSays new mark age
says_still old new mark age same says = record { row = says.row; only = same ∙ says.only; has_mark = says.has_mark; has_age = says.has_age }

-- and whoever writes that row keeps the bytes of each content
pub bytes_still : (old new : Database) (mark : List ℕ) (age : ℕ) → PutsPack old new mark age → (file : List ℕ) (i : ℤ) → bytes_in new file i ≡ bytes_in old file i
bytes_still old new mark age put file i =
    ap (λ rows. option_map (λ _. joined file (places_of (place_rows new) i)) (find (has_rowid i) rows)) put.contents
    ∙ ap (λ rows. option_map (λ _. joined file (places_of rows i)) (find (has_rowid i) (content_rows old))) put.places

-- ---- the same of a call's result, inside a transaction

pub pack_came_by : (old new : State) (mark : List ℕ) (age : ℕ) (r : Result ℕ Error) → HoldsPlaces old.now → pack_rows old.now ≡ [] → ExecutesInside 0 pack_put (Blob mark ∷ Int (pos age) ∷ []) old new r → OnOk r (PutsPack old.now new.now mark age × IsInside new)
pack_came_by old new mark age (Err e) is none h = tt
pack_came_by old new mark age (Ok n) is none h = let it = pack_came old new mark age n is none h.0 in (it.0, record { inside = h.1.mode; holds = it.1 })

pub age_set_by : (old new : State) (mark : List ℕ) (was age : ℕ) (r : Result ℕ Error) → HoldsPlaces old.now → PackSays old.now mark was → ExecutesInside 0 pack_set_age (Int (pos age) ∷ []) old new r → OnOk r (PutsPack old.now new.now mark age × IsInside new)
age_set_by old new mark was age (Err e) is says h = tt
age_set_by old new mark was age (Ok n) is says h = let it = age_set old new mark was age n is says h.0 in (it.0, record { inside = h.1.mode; holds = it.1 })
