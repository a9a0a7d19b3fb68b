-- A content is looked for by the digest, and then by its bytes.
use Rattle.std.proofs.Common.{◌≡◌, ◌≢◌, inl, inr, ◌<◌, ℕ, ℤ, List, [], ◌∷◌, map, Bool, true, false, None, Some, Ok, Err, Result, IfOk, length, get_or, refl, sym, ap, subst, ◌∙◌, true≢false}
use Rattle.std.specs.Prelude.{filter, find, Option, option_map, MatchOption, IfSome, ◌&&◌}
use Rattle.std.specs.Ordering.{is_eq}
use Rattle.std.specs.List.{list_any}
use Rattle.std.specs.List.Sorted.{IsPermutation}
use Rattle.std.proofs.lemmas.Cmp.{tied_itself}
use Rattle.std.proofs.lemmas.List.Folds.{list_any_at}
use Rattle.std.proofs.lemmas.List.Sorted.{list_any-IsPermutation}
use Rattle.std.proofs.lemmas.Slice.Eq.{bytes_eq-Decides}
use Rattle.sqlite_value.proofs.OrderLemmas.{value_cmp_total}
use Rattle.sqlite.specs.declared.types.Value.TheVariants.{Int, Text}
use Rattle.sqlite.specs.Order.{Row, column, value_cmp}
use Rattle.sqlite.specs.Tree.{has_rowid}
use Rattle.sqlite.specs.Effect.{Database}
use Rattle.sqlite.specs.declared.error.Error.{Error}
use Rattle.sqlite.specs.State.{State, Shown}
use Rattle.sqlite_trees.proofs.ListLemmas.{filter_same, all_weaker}
use Rattle.sqlite_rules.specs.Lists.{Has}
use Rattle.sqlite_rules.proofs.ListLemmas.{all_has, some_has, some_from, has_filtered, has_kept}
use Rattle.sqlite_rules.proofs.ProbeLemmas.{has_mapped}
use Rattle.store_schema.specs.Rows.{bytes_at}
use Rattle.store_schema.proofs.Lists.{bytes_eq_true}
use Rattle.store_schema.proofs.Ids.{find_id, found_has, rowid_passed}
use Rattle.store_schema.proofs.Selects.{Answer, chosen, shows, is_text, one_test}
use Rattle.store_contents.specs.Texts.{find_text, find_terms}
use Rattle.store_contents.specs.Contents.{HoldsContents, IsContentRow, AreContentRows, content_rows, has_bytes, bytes_in, sha256_text}
use Rattle.store_contents.specs.Search.{has_sha256, found_columns, is_blob, shows_bytes, shows_content, ShowsFirst}

-- ---- by the digest

pub chosen-sha256 : (sha256 : List ℕ) (rows : List Row) → AreContentRows rows → chosen (Text sha256 ∷ []) find_terms rows ≡ filter (has_sha256 sha256) rows
chosen-sha256 sha256 rows h = filter_same _ _ rows (all_weaker IsContentRow _ (λ r it. one_test _ _ (is_text (column r 2) _ sha256 it.sha256)) rows h)

pub candidates_shown : (old new : State) (sha256 : List ℕ) (r : Answer) → HoldsContents old.now → IfOk r (λ rows. Shown find_text (Text sha256 ∷ []) old new rows.items)
    → IfOk r (λ rows. IsPermutation (map found_columns (filter (has_sha256 sha256) (content_rows old.now))) rows.items)
candidates_shown old new sha256 (Err e) is h = tt
candidates_shown old new sha256 (Ok rows) is h =
    subst (λ xs. IsPermutation (map found_columns xs) rows.items) (chosen-sha256 sha256 (content_rows old.now) is.rows)
    (shows old.now.schema find_text _ _ find_terms _ (Text sha256 ∷ []) old new rows.items refl is.known.texts.find is.known.stands.stored h)

-- ---- by the bytes

both : (a b : Bool) → a ≡ true → b ≡ true → a && b ≡ true
both true true e f = refl
both true false e f = f
both false b e f = absurd (true≢false (sym e))

parts : (a b : Bool) → a && b ≡ true → (a ≡ true) × (b ≡ true)
parts true b e = (refl, e)
parts false b e = absurd (true≢false (sym e))

pub shows_it : (rows : List Row) (bytes : List ℕ) (at : ℕ) (row : Row) (id : ℤ) → at < length rows → row ≡ get_or rows at row → column row 0 ≡ Int id → shows_bytes bytes row ≡ true → list_any (shows_content id bytes) rows ≡ true
shows_it rows bytes at row id low is named has = list_any_at (shows_content id bytes) rows at row low
    (subst (λ r. shows_content id bytes r ≡ true) is (both _ _ (ap (λ v. is_eq (value_cmp v (Int id))) named ∙ ap is_eq (tied_itself value_cmp_total (Int id))) has))

-- equal bytes have equal digests
hashed_alike : (sha256 bytes : List ℕ) (r : Row) → sha256 ≡ sha256_text bytes → IsContentRow r → bytes_at r 4 ≡ bytes → has_sha256 sha256 r ≡ true
hashed_alike sha256 bytes r e it same = (bytes_eq-Decides _ _).1 (it.hashed ∙ ap sha256_text same ∙ sym e)

-- what is found shows the bytes that it has
blob_shown : (bytes : List ℕ) (r : Row) → IsContentRow r → is_blob bytes (column r 4) ≡ has_bytes bytes r
blob_shown bytes r it = ap (is_blob bytes) it.bytes

pub found_is : (db : Database) (sha256 bytes : List ℕ) (rows : List Row) (o : Option ℤ) → HoldsContents db → sha256 ≡ sha256_text bytes → IsPermutation (map found_columns (filter (has_sha256 sha256) (content_rows db))) rows
    → (o ≡ None → list_any (shows_bytes bytes) rows ≡ false) → IfSome o (λ id. list_any (shows_content id bytes) rows ≡ true)
    → MatchOption o ((i : ℤ) → bytes_in db i ≢ Some bytes) (λ id. bytes_in db id ≡ Some bytes)
found_is db sha256 bytes rows None is e same none some = λ i there. missing i (find (has_rowid i) table) refl there
  where
    table : List Row
    table = content_rows db

    -- a content with the bytes would have been shown
    missing : (i : ℤ) (found : Option Row) → find (has_rowid i) table ≡ found → option_map (λ r. bytes_at r 4) found ≡ Some bytes → ⊥
    missing i None f there = absurd (let x = there in cc)
    missing i (Some r) f there =
        let has = (found_has table r i is.ids f).0 in
        let it : IsContentRow r = all_has IsContentRow table r is.rows has in
        let here : bytes_at r 4 ≡ bytes = cc in
        let kept : Has (filter (has_sha256 sha256) table) r = has_kept (has_sha256 sha256) table r has (hashed_alike sha256 bytes r e it here) in
        let shown : list_any (shows_bytes bytes) (map found_columns (filter (has_sha256 sha256) table)) ≡ true = mapped (filter (has_sha256 sha256) table) r kept (blob_shown bytes r it ∙ (bytes_eq-Decides _ _).1 here) in
        true≢false (sym shown ∙ list_any-IsPermutation (shows_bytes bytes) _ rows same ∙ none refl)
      where
        mapped : (xs : List Row) (x : Row) → Has xs x → shows_bytes bytes (found_columns x) ≡ true → list_any (shows_bytes bytes) (map found_columns xs) ≡ true
        mapped xs x h e = some_from (shows_bytes bytes) (map found_columns xs) (found_columns x) (has_image xs x h) e
          where
            has_image : (xs : List Row) (x : Row) → Has xs x → Has (map found_columns xs) (found_columns x)
            has_image [] x h = absurd h
            has_image (y ∷ ys) x (inl s) = inl (ap found_columns s)
            has_image (y ∷ ys) x (inr l) = inr (has_image ys x l)
found_is db sha256 bytes rows (Some id) is e same none some =
    let table = content_rows db in
    let shown = some_has (shows_content id bytes) (map found_columns (filter (has_sha256 sha256) table)) (list_any-IsPermutation (shows_content id bytes) _ rows same ∙ some) in
    let from = has_mapped found_columns (filter (has_sha256 sha256) table) shown.0 shown.1 in
    let r = from.0 in
    let has = (has_filtered (has_sha256 sha256) table r from.1).0 in
    let it : IsContentRow r = all_has IsContentRow table r is.rows has in
    let tests = parts _ _ (subst (λ x. shows_content id bytes x ≡ true) from.2 shown.2) in
    let named = rowid_passed table r id is.ids has tests.0 in
    ap (option_map (λ x. bytes_at x 4)) (find_id table r id is.ids has named) ∙ ap Some (bytes_eq_true _ _ (sym (blob_shown bytes r it) ∙ tests.1))

pub shows_first : (bytes : List ℕ) (rows : List Row) (r : Result (Option ℤ) Error) → IfOk r (λ o. o ≡ None → list_any (shows_bytes bytes) rows ≡ false) → IfOk r (λ o. IfSome o (λ id. list_any (shows_content id bytes) rows ≡ true)) → IfOk r (ShowsFirst bytes rows)
shows_first bytes rows (Ok o) none some = record { none = none; some = some }
shows_first bytes rows (Err e) none some = tt
