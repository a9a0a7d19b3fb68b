-- The bytes of all contents after a row of a content came, and rows of its places.
use Rattle.std.proofs.Common.{◌≡◌, ◌≢◌, ◌<◌, ◌+◌, inl, inr, ℕ, ℤ, List, [], ◌∷◌, ◌++◌, Bool, true, false, cond, map, Option, None, Some, refl, sym, ap, subst, ◌∙◌, arith, append_assoc}
use Rattle.std.specs.Prelude.{filter, find, is_some, option_map, IsTrue}
use Rattle.std.specs.List.{AllByRecursion, concat}
use Rattle.std.specs.List.Sorted.{IsPermutation}
use Rattle.std.specs.Ordering.{int_eq}
use Rattle.std.proofs.lemmas.List.{map-append}
use Rattle.std.proofs.lemmas.List.Folds.{concat-append}
use Rattle.std.proofs.lemmas.List.Elements.{filter-append}
use Rattle.std.proofs.lemmas.List.Sorted.{IsPermutation-trans, IsPermutation-middle, IsPermutation-map, IsPermutation-append_right, IsPermutation-refl}
use Rattle.sqlite.specs.declared.types.Value.TheVariants.{Int}
use Rattle.sqlite.specs.Order.{Row}
use Rattle.sqlite.specs.Table.{Table}
use Rattle.sqlite.specs.Tree.{has_rowid}
use Rattle.sqlite.specs.Effect.{Database}
use Rattle.sqlite_keyed.specs.Lists.{sort_by}
use Rattle.store_schema.specs.Rows.{integer_at, natural_at}
use Rattle.store_schema.specs.Layout.{tree_of, KeepsOthers}
use Rattle.store_schema.proofs.Lists.{all_middle, find_middle}
use Rattle.store_schema.proofs.Ids.{rowid_test, int_eq_is, int_eq_itself}
use Rattle.registry_pack.specs.declared.extent.Extent.{Extent}
use Rattle.registry_pack.specs.Extents.{bytes_at, total_of}
use Rattle.store_contents.specs.PlaceTables.{contents_table, places_table}
use Rattle.store_contents.specs.Places.{HoldsPlaces, AreOwned, by_start, of_content, places_of, joined, bytes_of, bytes_in, runs_of, content_rows, place_rows}
use Rattle.store_places.specs.Places.{AreBefore, PutsContent, PutsPlace, PutsPlaces, Adds, KeepsAround, runs_at, content_columns, place_columns, has_content}
use Rattle.store_places.proofs.Sorting.{sorted_last}

-- ---- a content that is not there has no places

none_of : (contents places : List Row) (id : ℤ) → AreOwned contents places → find (has_rowid id) contents ≡ None → filter (of_content id) places ≡ []
none_of contents [] id owned free = refl
none_of contents (r ∷ rs) id owned free = by (of_content id r) refl (none_of contents rs id owned.1 free)
  where
    by : (b : Bool) → of_content id r ≡ b → filter (of_content id) rs ≡ [] → cond b (r ∷ filter (of_content id) rs) (filter (of_content id) rs) ≡ []
    by true e rest =
        let same : integer_at r 1 ≡ id = int_eq_is _ _ e in
        let there : IsTrue (is_some (find (has_rowid id) contents)) = subst (λ i. IsTrue (is_some (find (has_rowid i) contents))) same owned.0 in
        absurd (let x = subst (λ (o : Option Row). IsTrue (is_some o)) free there in cc)
    by false e rest = rest

-- ---- one more place

module _ (old new : Database) (id : ℤ) (start at size : ℕ) (put : PutsPlace old new id start at size) where
  abbrev row : Row
  row = Int put.rowid ∷ place_columns id start at size

  filter_new : (p : Row → Bool) → filter p (place_rows new) ≡ filter p put.puts.before ++ cond (p row) (row ∷ filter p put.puts.after) (filter p put.puts.after)
  filter_new p = ap (filter p) put.puts.news_are ∙ filter-append p put.puts.before _

  filter_old : (p : Row → Bool) → filter p (place_rows old) ≡ filter p put.puts.before ++ filter p put.puts.after
  filter_old p = ap (filter p) put.puts.olds_are ∙ filter-append p put.puts.before put.puts.after

  filter_here : filter (of_content id) (place_rows new) ≡ filter (of_content id) put.puts.before ++ row ∷ filter (of_content id) put.puts.after
  filter_here = filter_new (of_content id)
      ∙ ap (λ b. filter (of_content id) put.puts.before ++ cond b (row ∷ filter (of_content id) put.puts.after) (filter (of_content id) put.puts.after)) (int_eq_itself id)

  -- it comes behind those of its content that begin before
  place_last : AreBefore start (filter (of_content id) (place_rows old)) → places_of (place_rows new) id ≡ places_of (place_rows old) id ++ row ∷ []
  place_last before =
      ap (sort_by by_start) filter_here
      ∙ sorted_last row (filter (of_content id) put.puts.before) (filter (of_content id) put.puts.after) (subst (AreBefore start) (filter_old (of_content id)) before)
      ∙ ap (λ l. sort_by by_start l ++ row ∷ []) (sym (filter_old (of_content id)))

  -- those of another are as they were
  place_other : (j : ℤ) → int_eq id j ≡ false → places_of (place_rows new) j ≡ places_of (place_rows old) j
  place_other j apart =
      ap (sort_by by_start)
      (filter_new (of_content j) ∙ ap (λ b. filter (of_content j) put.puts.before ++ cond b (row ∷ filter (of_content j) put.puts.after) (filter (of_content j) put.puts.after)) apart
      ∙ sym (filter_old (of_content j)))

  all_before : 0 < size → AreBefore start (filter (of_content id) (place_rows old)) → AreBefore (start + size) (filter (of_content id) (place_rows new))
  all_before some before =
      let grown : AreBefore (start + size) (filter (of_content id) (place_rows old)) = grow (filter (of_content id) (place_rows old)) before in
      subst (AreBefore (start + size)) (sym filter_here)
      (all_middle (λ r. natural_at r 2 < start + size) row _ _ (subst (AreBefore (start + size)) (filter_old (of_content id)) grown) (omega arith))
    where
      grow : (rows : List Row) → AreBefore start rows → AreBefore (start + size) rows
      grow [] all = tt
      grow (r ∷ rs) all = (omega (arith, all.0), grow rs all.1)

  runs_more : IsPermutation (runs_of (place_rows new)) ((at, size) ∷ runs_of (place_rows old))
  runs_more =
      subst (λ rows. IsPermutation (runs_of (place_rows new)) ((at, size) ∷ runs_of rows)) (sym put.puts.olds_are)
      (subst (λ rows. IsPermutation (runs_of rows) ((at, size) ∷ runs_of (put.puts.before ++ put.puts.after))) (sym put.puts.news_are)
      (IsPermutation-map (λ (r : Row). (natural_at r 4, natural_at r 3)) _ _ (IsPermutation-middle put.puts.before row put.puts.after)))

joined_more : (file : List ℕ) (rows : List Row) (r : Row) → joined file (rows ++ r ∷ []) ≡ joined file rows ++ bytes_of file r
joined_more file rows r =
    ap concat (map-append (bytes_of file) rows (r ∷ [])) ∙ concat-append (map (bytes_of file) rows) (bytes_of file r ∷ []) ∙ ap (λ l. joined file rows ++ l) (last (bytes_of file r))
  where
    last : (xs : List ℕ) → concat (xs ∷ []) ≡ xs
    last xs = Rattle.std.proofs.lemmas.List.append-nil xs

-- ---- several places

abbrev pub AreSome : List Extent → Type 0
AreSome es = AllByRecursion (λ (e : Extent). 0 < e.size) es

-- they all begin before the end of the last
pub before_put : (old new : Database) (id : ℤ) (start : ℕ) (es : List Extent) → PutsPlaces old new id start es → AreSome es → AreBefore start (filter (of_content id) (place_rows old)) → AreBefore (start + total_of es) (filter (of_content id) (place_rows new))
before_put old new id start [] puts some before =
    let none : start + 0 ≡ start = omega arith in
    subst (λ n. AreBefore n (filter (of_content id) (place_rows new))) (sym none) (subst (λ (d : Database). AreBefore start (filter (of_content id) (place_rows d))) (sym puts) before)
before_put old new id start (e ∷ es) puts some before =
    let further : start + e.size + total_of es ≡ start + (e.size + total_of es) = omega arith in
    subst (λ n. AreBefore n (filter (of_content id) (place_rows new))) further
    (before_put puts.0 new id (start + e.size) es puts.2 some.1 (all_before old puts.0 id start e.at e.size puts.1 some.0 before))

pub rows_kept : (old new : Database) (id : ℤ) (start : ℕ) (es : List Extent) → PutsPlaces old new id start es → content_rows new ≡ content_rows old
rows_kept old new id start [] puts = ap content_rows puts
rows_kept old new id start (e ∷ es) puts = rows_kept puts.0 new id _ es puts.2 ∙ puts.1.contents

pub places_other : (old new : Database) (id : ℤ) (start : ℕ) (es : List Extent) → PutsPlaces old new id start es → (j : ℤ) → int_eq id j ≡ false → places_of (place_rows new) j ≡ places_of (place_rows old) j
places_other old new id start [] puts j apart = ap (λ (d : Database). places_of (place_rows d) j) puts
places_other old new id start (e ∷ es) puts j apart = places_other puts.0 new id _ es puts.2 j apart ∙ place_other old puts.0 id start e.at e.size puts.1 j apart

pub joined_put : (file : List ℕ) (old new : Database) (id : ℤ) (start : ℕ) (es : List Extent) → PutsPlaces old new id start es → AreSome es → AreBefore start (filter (of_content id) (place_rows old))
    → joined file (places_of (place_rows new) id) ≡ joined file (places_of (place_rows old) id) ++ bytes_at file es
joined_put file old new id start [] puts some before =
    ap (λ (d : Database). joined file (places_of (place_rows d) id)) puts ∙ sym (Rattle.std.proofs.lemmas.List.append-nil (joined file (places_of (place_rows old) id)))
joined_put file old new id start (e ∷ es) puts some before =
    joined_put file puts.0 new id (start + e.size) es puts.2 some.1 (all_before old puts.0 id start e.at e.size puts.1 some.0 before)
    ∙ ap (λ l. l ++ bytes_at file es) (ap (joined file) (place_last old puts.0 id start e.at e.size puts.1 before) ∙ joined_more file (places_of (place_rows old) id) _)
    ∙ append_assoc (joined file (places_of (place_rows old) id)) _ (bytes_at file es)

pub runs_put : (old new : Database) (id : ℤ) (start : ℕ) (es : List Extent) → PutsPlaces old new id start es → IsPermutation (runs_of (place_rows new)) (runs_at es ++ runs_of (place_rows old))
runs_put old new id start [] puts = subst (λ (d : Database). IsPermutation (runs_of (place_rows new)) (runs_of (place_rows d))) puts (IsPermutation-refl _)
runs_put old new id start (e ∷ es) puts =
    IsPermutation-trans _ _ _ (runs_put puts.0 new id _ es puts.2)
    (IsPermutation-trans _ _ _ (IsPermutation-append_right (runs_at es) _ _ (runs_more old puts.0 id start e.at e.size puts.1))
    (IsPermutation-middle (runs_at es) (e.at, e.size) (runs_of (place_rows old))))

-- ---- the other tables

pub around_both : (old mid new : Database) → KeepsAround old mid → KeepsAround mid new → KeepsAround old new
around_both old mid new first then = record {
  schema = then.schema ∙ first.schema;
  tables = both old.schema.tables first.tables
      (subst (λ s. AllByRecursion (λ (t : Table). t.tree ≢ tree_of s contents_table → t.tree ≢ tree_of s places_table → new.trees t.tree ≡ mid.trees t.tree) (Rattle.sqlite.specs.Schema.Schema.tables s)) first.schema then.tables);
}
  where
    both : (ts : List Table) → AllByRecursion (λ (t : Table). t.tree ≢ tree_of old.schema contents_table → t.tree ≢ tree_of old.schema places_table → mid.trees t.tree ≡ old.trees t.tree) ts
        → AllByRecursion (λ (t : Table). t.tree ≢ tree_of old.schema contents_table → t.tree ≢ tree_of old.schema places_table → new.trees t.tree ≡ mid.trees t.tree) ts
        → AllByRecursion (λ (t : Table). t.tree ≢ tree_of old.schema contents_table → t.tree ≢ tree_of old.schema places_table → new.trees t.tree ≡ old.trees t.tree) ts
    both [] h k = tt
    both (t ∷ ts) h k = ((λ a b. k.0 a b ∙ h.0 a b), both ts h.1 k.1)

pub around_contents : (old new : Database) → KeepsOthers contents_table old new → KeepsAround old new
around_contents old new keeps = record { schema = keeps.schema; tables = each old.schema.tables keeps.tables }
  where
    each : (ts : List Table) → AllByRecursion (λ (t : Table). t.tree ≢ tree_of old.schema contents_table → new.trees t.tree ≡ old.trees t.tree) ts
        → AllByRecursion (λ (t : Table). t.tree ≢ tree_of old.schema contents_table → t.tree ≢ tree_of old.schema places_table → new.trees t.tree ≡ old.trees t.tree) ts
    each [] h = tt
    each (t ∷ ts) h = ((λ a b. h.0 a), each ts h.1)

pub around_places : (old new : Database) → KeepsOthers places_table old new → KeepsAround old new
around_places old new keeps = record { schema = keeps.schema; tables = each old.schema.tables keeps.tables }
  where
    each : (ts : List Table) → AllByRecursion (λ (t : Table). t.tree ≢ tree_of old.schema places_table → new.trees t.tree ≡ old.trees t.tree) ts
        → AllByRecursion (λ (t : Table). t.tree ≢ tree_of old.schema contents_table → t.tree ≢ tree_of old.schema places_table → new.trees t.tree ≡ old.trees t.tree) ts
    each [] h = tt
    each (t ∷ ts) h = ((λ a b. h.0 b), each ts h.1)

pub around_put : (old new : Database) (id : ℤ) (start : ℕ) (es : List Extent) → PutsPlaces old new id start es → KeepsAround old new
around_put old new id start [] puts = subst (λ (d : Database). KeepsAround d new) puts (record { schema = refl; tables = itself new.schema.tables })
  where
    itself : (ts : List Table) → AllByRecursion (λ (t : Table). t.tree ≢ tree_of new.schema contents_table → t.tree ≢ tree_of new.schema places_table → new.trees t.tree ≡ new.trees t.tree) ts
    itself [] = tt
    itself (t ∷ ts) = ((λ a b. refl), itself ts)
around_put old new id start (e ∷ es) puts = around_both old puts.0 new (around_places old puts.0 puts.1.others) (around_put puts.0 new id _ es puts.2)

-- ---- a content and its places

-- the content that came is found
pub there : (old mid : Database) (id : ℤ) (sha256 : List ℕ) (size : ℕ) → PutsContent old mid id sha256 size → has_content mid id
there old mid id sha256 size put =
    let head : Row = Int id ∷ content_columns sha256 size in
    let e : find (has_rowid id) (content_rows mid) ≡ Some head =
    ap (find (has_rowid id)) put.puts.news_are ∙ find_middle (has_rowid id) head put.puts.before put.puts.after (inl (ap (find (has_rowid id)) (sym put.puts.olds_are) ∙ put.free))
    ∙ ap (λ b. cond b (Some head) (find (has_rowid id) (put.puts.before ++ put.puts.after))) (rowid_test id id (Int id) refl ∙ int_eq_itself id) in
    subst (λ (o : Option Row). IsTrue (is_some o)) (sym e) refl

-- and has no places yet
pub no_places : (old mid : Database) (id : ℤ) (sha256 : List ℕ) (size : ℕ) → HoldsPlaces old → PutsContent old mid id sha256 size → filter (of_content id) (place_rows mid) ≡ []
no_places old mid id sha256 size is put = ap (filter (of_content id)) put.places ∙ none_of (content_rows old) (place_rows old) id is.owned put.free

module _ (old mid new : Database) (id : ℤ) (sha256 : List ℕ) (es : List Extent) (is : HoldsPlaces old) (content : PutsContent old mid id sha256 (total_of es)) (puts : PutsPlaces mid new id 0 es) (some : AreSome es) where
  abbrev head : Row
  head = Int id ∷ content_columns sha256 (total_of es)

  found : (i : ℤ) → find (has_rowid i) (content_rows new) ≡ cond (int_eq id i) (Some head) (find (has_rowid i) (content_rows old))
  found i =
      ap (find (has_rowid i)) (rows_kept mid new id 0 es puts ∙ content.puts.news_are) ∙ between (has_rowid i head) refl
      ∙ ap (λ rs. cond (has_rowid i head) (Some head) (find (has_rowid i) rs)) (sym content.puts.olds_are)
      ∙ ap (λ b. cond b (Some head) (find (has_rowid i) (content_rows old))) (rowid_test i id (Int id) refl)
    where
      between : (b : Bool) → has_rowid i head ≡ b → find (has_rowid i) (content.puts.before ++ head ∷ content.puts.after) ≡ cond (has_rowid i head) (Some head) (find (has_rowid i) (content.puts.before ++ content.puts.after))
      between false e = find_middle (has_rowid i) head content.puts.before content.puts.after (inr e)
      between true e =
          let same : id ≡ i = int_eq_is id i (sym (rowid_test i id (Int id) refl) ∙ e) in
          find_middle (has_rowid i) head content.puts.before content.puts.after (inl (ap (find (has_rowid i)) (sym content.puts.olds_are) ∙ subst (λ j. find (has_rowid j) (content_rows old) ≡ None) same content.free))

  nothing_before : filter (of_content id) (place_rows mid) ≡ []
  nothing_before = no_places old mid id sha256 (total_of es) is content

  bytes_here : (file : List ℕ) → joined file (places_of (place_rows new) id) ≡ bytes_at file es
  bytes_here file =
      joined_put file mid new id 0 es puts some (subst (AreBefore 0) (sym nothing_before) tt)
      ∙ ap (λ l. joined file (sort_by by_start l) ++ bytes_at file es) nothing_before

  bytes_all : (file : List ℕ) (i : ℤ) → bytes_in new file i ≡ cond (int_eq id i) (Some (bytes_at file es)) (bytes_in old file i)
  bytes_all file i = by (int_eq id i) refl
    where
      by : (b : Bool) → int_eq id i ≡ b → bytes_in new file i ≡ cond b (Some (bytes_at file es)) (bytes_in old file i)
      by true e =
          ap (option_map (λ _. joined file (places_of (place_rows new) i))) (found i ∙ ap (λ b. cond b (Some head) (find (has_rowid i) (content_rows old))) e)
          ∙ ap Some (subst (λ j. joined file (places_of (place_rows new) j) ≡ bytes_at file es) (int_eq_is id i e) (bytes_here file))
      by false e =
          ap (option_map (λ _. joined file (places_of (place_rows new) i))) (found i ∙ ap (λ b. cond b (Some head) (find (has_rowid i) (content_rows old))) e)
          ∙ ap (λ rows. option_map (λ _. joined file rows) (find (has_rowid i) (content_rows old))) (places_other mid new id 0 es puts i e ∙ ap (λ rows. places_of rows i) content.places)

  pub adds : Adds old new id sha256 es
  adds = record {
    free = content.free;
    rows = found;
    bytes = bytes_all;
    runs = subst (λ rows. IsPermutation (runs_of (place_rows new)) (runs_at es ++ runs_of rows)) content.places (runs_put mid new id 0 es puts);
    others = around_both old mid new (around_contents old mid content.others) (around_put mid new id 0 es puts);
  }
