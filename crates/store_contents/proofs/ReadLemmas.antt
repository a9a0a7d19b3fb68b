-- The bytes of a content are read.
use Rattle.std.proofs.Common.{◌≡◌, ◌⊎◌, inl, inr, ℕ, ℤ, List, [], ◌∷◌, map, None, Some, Ok, Err, IfOk, IfErr, OnOk, refl, sym, ap, subst, ◌∙◌}
use Rattle.std.specs.Prelude.{find, Option, option_map, Vec, Result}
use Rattle.std.specs.declared.alloc.Global.{Global}
use Rattle.std.specs.Option.{option_to_list}
use Rattle.std.specs.List.Sorted.{IsPermutation}
use Rattle.sqlite_trees.specs.declared.store.Store as store
use Rattle.sqlite.specs.declared.types.Value.TheVariants.{Int}
use Rattle.sqlite.specs.Order.{Row, column}
use Rattle.sqlite.specs.Tree.{has_rowid}
use Rattle.sqlite.specs.declared.error.Error.{Error}
use Rattle.sqlite.specs.Effect.{Database}
use Rattle.sqlite.specs.Held.{Held, state}
use Rattle.sqlite.specs.Given.{HasBegun, Advances}
use Rattle.sqlite.specs.State.{State, Shown, IsUnchanged, IsRolledBack}
use Rattle.sqlite.proofs.Callers.{one_permutation, begun_plain, given_begin, unchanged_then}
use Rattle.sqlite_trees.proofs.ListLemmas.{filter_same}
use Rattle.sqlite_rules.proofs.ListLemmas.{all_from, all_has}
use Rattle.store_schema.specs.Rows.{bytes_at}
use Rattle.store_schema.proofs.Lists.{no_permutation}
use Rattle.store_schema.proofs.Ids.{only_id, found_has}
use Rattle.store_schema.proofs.Selects.{Answer, chosen, shows, shows_first}
use Rattle.store_contents.specs.Texts.{read_text, by_id}
use Rattle.store_contents.specs.Contents.{HoldsContents, IsContentRow, content_rows, bytes_in}
use Rattle.store_contents.specs.Search.{blob_of, first_bytes, next_bytes, GivesBytes}
use Rattle.store_contents.proofs.RemoveLemmas.{by_id_passes}

abbrev pub bytes_shown : Option Row → List Row
bytes_shown o = map (λ r. column r 4 ∷ []) (option_to_list o)

-- the rows under the id: one, or none
chosen_one : (db : Database) (id : ℤ) → HoldsContents db → chosen (Int id ∷ []) by_id (content_rows db) ≡ option_to_list (find (has_rowid id) (content_rows db))
chosen_one db id is = filter_same _ _ (content_rows db) (all_from _ (content_rows db) (λ r has. by_id_passes (content_rows db) id r is.ids has)) ∙ only_id (content_rows db) id is.ids

settled : (o : Option Row) (rows : List Row) → IsPermutation (bytes_shown o) rows → rows ≡ bytes_shown o
settled None rows h = no_permutation rows h
settled (Some r) rows h = one_permutation _ rows h

pub read_shown : (old new : State) (id : ℤ) (rows : List Row) → HoldsContents old.now → Shown read_text (Int id ∷ []) old new rows → rows ≡ bytes_shown (find (has_rowid id) (content_rows old.now))
read_shown old new id rows is h = settled _ rows (subst (λ xs. IsPermutation (map (λ r. column r 4 ∷ []) xs) rows) (chosen_one old.now id is)
    (shows old.now.schema read_text _ _ by_id _ (Int id ∷ []) old new rows refl is.known.texts.read is.known.stands.stored h))

pub reads : (old new : State) (id : ℤ) (r : Answer) → HoldsContents old.now → IfOk r (λ rows. Shown read_text (Int id ∷ []) old new rows.items) → IfOk r (λ rows. rows.items ≡ bytes_shown (find (has_rowid id) (content_rows old.now)))
reads old new id (Err e) is h = tt
reads old new id (Ok rows) is h = read_shown old new id rows.items is h

-- the first of the rows has the bytes
pub bytes_first : (o : Option Row) (rows : List Row) → rows ≡ bytes_shown o → first_bytes rows ≡ option_map (λ r. bytes_at r 4) o
bytes_first None rows e = ap first_bytes e
bytes_first (Some r) rows e = ap first_bytes e

-- ---- one row at a time

one_at_most : (o : Option Row) (row : Row) (tail : List Row) → IsPermutation (bytes_shown o) (row ∷ tail) → Some row ≡ option_map (λ r. column r 4 ∷ []) o
one_at_most None row tail h = absurd (let e = no_permutation (row ∷ tail) h in cc)
one_at_most (Some r) row tail h = let e = one_permutation _ (row ∷ tail) h in cc

pub first_row : {S : Type 0} (g : store.Ghosts S) (old mid new : Held S) (id : ℤ) (row : Option Row) → HoldsContents (state g old).now → HasBegun g read_text (Int id ∷ []) old mid → Advances g mid new row → IsUnchanged (state g mid) (state g new)
    → row ≡ option_map (λ r. column r 4 ∷ []) (find (has_rowid id) (content_rows (state g old).now))
first_row g old mid new id (Some row) is begun adv same =
    let params = Int id ∷ [] in
    let start = begun_plain g read_text params old mid is.known.texts.read.plain begun in
    let given = adv read_text params [] start.0 in
    let now : (state g new).now ≡ (state g old).now = same.0.now_is ∙ start.1.0.now_is in
    let here : HoldsContents (state g new).now = subst HoldsContents (sym now) is in
    let first = shows_first (state g new).now.schema read_text _ _ by_id _ params (state g new) row refl here.known.texts.read here.known.stands.stored (given_begin g read_text params new (row ∷ []) given) in
    one_at_most (find (has_rowid id) (content_rows (state g new).now)) row first.0 (subst (λ xs. IsPermutation (map (λ r. column r 4 ∷ []) xs) (row ∷ first.0)) (chosen_one (state g new).now id here) first.1)
    ∙ ap (λ (d : Database). option_map (λ r. column r 4 ∷ []) (find (has_rowid id) (content_rows d))) now
first_row g old mid new id None is begun adv same =
    let params = Int id ∷ [] in
    let start = begun_plain g read_text params old mid is.known.texts.read.plain begun in
    let here : HoldsContents (state g mid).now = subst HoldsContents (sym start.1.0.now_is) is in
    none_of _ (read_shown (state g mid) (state g new) id [] here (adv read_text params [] start.0))
    ∙ ap (λ (d : Database). option_map (λ r. column r 4 ∷ []) (find (has_rowid id) (content_rows d))) start.1.0.now_is
  where
    none_of : (o : Option Row) → ◌≡◌ {A = List Row} [] (bytes_shown o) → None ≡ option_map (λ r. column r 4 ∷ []) o
    none_of None e = refl
    none_of (Some r) e = absurd cc

peeked : (db : Database) (id : ℤ) (row : Row) → HoldsContents db → Some row ≡ option_map (λ r. column r 4 ∷ []) (find (has_rowid id) (content_rows db)) → blob_of (column row 0) ≡ bytes_in db id
peeked db id row is e = go (find (has_rowid id) (content_rows db)) refl e
  where
    go : (o : Option Row) → find (has_rowid id) (content_rows db) ≡ o → Some row ≡ option_map (λ r. column r 4 ∷ []) o → blob_of (column row 0) ≡ bytes_in db id
    go None g h = absurd (let x = h in cc)
    go (Some r) g h =
        let there = (found_has (content_rows db) r id is.ids g).0 in
        let shape : row ≡ column r 4 ∷ [] = cc in
        ap (λ w. blob_of (column w 0)) shape ∙ ap blob_of (all_has IsContentRow (content_rows db) r is.rows there).bytes ∙ sym (ap (option_map (λ x. bytes_at x 4)) g)

nothing_peeked : (db : Database) (id : ℤ) → None ≡ option_map (λ r. column r 4 ∷ []) (find (has_rowid id) (content_rows db)) → None ≡ bytes_in db id
nothing_peeked db id e = go (find (has_rowid id) (content_rows db)) e
  where
    go : (o : Option Row) → None ≡ option_map (λ r. column r 4 ∷ []) o → None ≡ option_map (λ r. bytes_at r 4) o
    go None e = refl
    go (Some r) e = absurd (let x = e in cc)

next_is : (db : Database) (id : ℤ) (next : Option Row) → HoldsContents db → next ≡ option_map (λ r. column r 4 ∷ []) (find (has_rowid id) (content_rows db)) → next_bytes next ≡ bytes_in db id
next_is db id None is e = nothing_peeked db id e
next_is db id (Some row) is e = peeked db id row is e

-- ---- the same of a call's result

abbrev pub Copied : Type 0
Copied = Result (Option (Vec ℕ Global)) Error

abbrev pub copied_bytes : Option (Vec ℕ Global) → Option (List ℕ)
copied_bytes o = option_map (λ (v : Vec ℕ Global). v.items) o

pub gives_row : {S : Type 0} (g : store.Ghosts S) (old new : Held S) (next : Option Row) (row : Row) (r : Copied) → Some row ≡ next → Advances g old new next
    → IfOk r (λ o. copied_bytes o ≡ blob_of (column row 0)) → IfOk r (λ o. GivesBytes g old new (copied_bytes o))
gives_row g old new next row (Err e) is adv h = tt
gives_row g old new next row (Ok o) is adv h = (next, adv, h ∙ ap next_bytes is)

pub reads_first : {S : Type 0} (g : store.Ghosts S) (old mid new : Held S) (id : ℤ) (r : Copied) → HoldsContents (state g old).now → HasBegun g read_text (Int id ∷ []) old mid
    → OnOk r (IsUnchanged (state g mid) (state g new)) → IfOk r (λ o. GivesBytes g mid new (copied_bytes o)) → IfOk r (λ o. copied_bytes o ≡ bytes_in (state g old).now id)
reads_first g old mid new id (Err e) is begun same h = tt
reads_first g old mid new id (Ok o) is begun same h = h.2 ∙ next_is (state g old).now id h.0 is (first_row g old mid new id h.0 is begun h.1 same)

pub same_if : (r : Copied) (P : Type 0) → P → OnOk r P
same_if (Ok o) P p = p
same_if (Err e) P p = tt

rolled_back_then : (a b c : State) → IsUnchanged a b → IsRolledBack b c → IsRolledBack a c
rolled_back_then a b c u r = record {
  was_open = λ stands. u.0.was_open;
  undone = λ stands. let back = r.undone stands in (back.0 ∙ u.0.committed_is, back.1 ∙ u.0.committed_is);
  autocommit = r.autocommit;
  unmarked = r.unmarked;
  counts = record { changes = r.counts.changes ∙ u.1.changes; last_rowid = r.counts.last_rowid ∙ u.1.last_rowid };
}

module _ {S : Type 0} (g : store.Ghosts S) (old mid new : Held S) (id : ℤ) (r : Copied) (is : HoldsContents (state g old).now) (begun : HasBegun g read_text (Int id ∷ []) old mid) where
  begun_same : IsUnchanged (state g old) (state g mid)
  begun_same = (begun_plain g read_text (Int id ∷ []) old mid is.known.texts.read.plain begun).1

  pub reads_same : OnOk r (IsUnchanged (state g mid) (state g new)) → OnOk r (IsUnchanged (state g old) (state g new))
  reads_same h = go r h
    where
      go : (r : Copied) → OnOk r (IsUnchanged (state g mid) (state g new)) → OnOk r (IsUnchanged (state g old) (state g new))
      go (Ok o) h = unchanged_then (state g old) (state g mid) (state g new) begun_same h
      go (Err e) h = tt

  pub reads_failed : IfErr r (λ _. IsUnchanged (state g mid) (state g new) ⊎ IsRolledBack (state g mid) (state g new)) → IfErr r (λ _. IsUnchanged (state g old) (state g new) ⊎ IsRolledBack (state g old) (state g new))
  reads_failed h = go r h
    where
      go : (r : Copied) → IfErr r (λ _. IsUnchanged (state g mid) (state g new) ⊎ IsRolledBack (state g mid) (state g new)) → IfErr r (λ _. IsUnchanged (state g old) (state g new) ⊎ IsRolledBack (state g old) (state g new))
      go (Ok o) h = tt
      go (Err e) (inl u) = inl (unchanged_then (state g old) (state g mid) (state g new) begun_same u)
      go (Err e) (inr b) = inr (rolled_back_then (state g old) (state g mid) (state g new) begun_same b)
