-- The contents that nothing names are told.
use Rattle.std.proofs.Common.{◌≡◌, ◌+◌, ◌<◌, ◌++◌, ℕ, length, take, get_or, List, [], ◌∷◌, map, true, not, Ok, Err, IfOk, refl, sym, ap, subst, ◌∙◌}
use Rattle.std.specs.Prelude.{filter}
use Rattle.std.specs.List.Sorted.{IsPermutation}
use Rattle.std.specs.BTreeSet.{BTreeSet}
use Rattle.std.proofs.lemmas.List.{take_more, map-append}
use Rattle.std.proofs.lemmas.List.Elements.{filter-append}
use Rattle.std.proofs.lemmas.List.Sorted.{IsPermutation-map}
use Rattle.sqlite.specs.Order.{Row, column}
use Rattle.sqlite.specs.Effect.{Database}
use Rattle.sqlite.specs.Given.{IsPlain}
use Rattle.sqlite.specs.Listing.{understood}
use Rattle.sqlite.specs.State.{State, Shown}
use Rattle.sqlite_trees.proofs.ListLemmas.{filter_all, all_of, IsPermutation-filter, map-map}
use Rattle.store_schema.proofs.Selects.{Answer, shows}
use Rattle.store_contents.specs.declared.content_id.ContentId.{ContentId}
use Rattle.store_contents.specs.Texts.{list_text}
use Rattle.store_contents.specs.Contents.{content_rows}
use Rattle.store_contents.specs.Places as places
use Rattle.store_contents.specs.Layouts.{Layout, InTables, InPack, Holds}
use Rattle.store_contents.specs.Linked.{is_linked, id_shown, ids_in, rows_in}

shown_rows : (rows : List Row) → filter (λ r. true) rows ≡ rows
shown_rows rows = filter_all _ rows (all_of _ (λ r. refl) rows)

pub lists : (l : Layout) (old new : State) (r : Answer) → Holds l old.now → IfOk r (λ rows. Shown list_text [] old new rows.items) → IfOk r (λ rows. IsPermutation (map (λ r. column r 0 ∷ []) (rows_in l old.now)) rows.items)
lists l old new (Err e) is h = tt
lists InTables old new (Ok rows) is h =
    subst (λ xs. IsPermutation (map (λ r. column r 0 ∷ []) xs) rows.items) (shown_rows (content_rows old.now))
    (shows old.now.schema list_text _ _ [] _ [] old new rows.items refl is.known.texts.list is.known.stands.stored h)
lists (InPack file) old new (Ok rows) is h =
    subst (λ xs. IsPermutation (map (λ r. column r 0 ∷ []) xs) rows.items) (shown_rows (places.content_rows old.now))
    (shows old.now.schema list_text _ _ [] _ [] old new rows.items refl is.rows.known.content_texts.list is.rows.known.contents.stored h)

-- the text only reads
pub list_plain : (l : Layout) (db : Database) → Holds l db → IsPlain (understood db.schema list_text)
list_plain InTables db is = is.known.texts.list.plain
list_plain (InPack file) db is = is.rows.known.content_texts.list.plain

pub unlinked_are : (l : Layout) (db : Database) (linked : BTreeSet ContentId) (rows : List Row) (ids : List ContentId) → IsPermutation (map (λ r. column r 0 ∷ []) (rows_in l db)) rows → ids ≡ filter (λ id. not (is_linked linked id)) (map id_shown rows)
    → IsPermutation (filter (λ id. not (is_linked linked id)) (ids_in l db)) ids
unlinked_are l db linked rows ids same e =
    let shown : IsPermutation (ids_in l db) (map id_shown rows) = subst (λ xs. IsPermutation xs (map id_shown rows)) (map-map id_shown (λ r. column r 0 ∷ []) (rows_in l db)) (IsPermutation-map id_shown _ _ same) in
    subst (IsPermutation (filter (λ id. not (is_linked linked id)) (ids_in l db))) (sym e) (IsPermutation-filter (λ id. not (is_linked linked id)) _ _ shown)

pub lacking_more : (linked : BTreeSet ContentId) (rows : List Row) (at : ℕ) (row : Row) (id : ContentId) (ids news : List ContentId) → at < length rows → row ≡ get_or rows at row → id ≡ id_shown row
    → ids ≡ filter (λ it. not (is_linked linked it)) (map id_shown (take at rows)) → news ≡ ids ++ filter (λ it. not (is_linked linked it)) (id ∷ []) → news ≡ filter (λ it. not (is_linked linked it)) (map id_shown (take (at + 1) rows))
lacking_more linked rows at row id ids news low is named e f =
    let p = λ (it : ContentId). not (is_linked linked it) in
    f ∙ ap (λ xs. xs ++ filter p (id ∷ [])) e ∙ ap (λ x. filter p (map id_shown (take at rows)) ++ filter p (x ∷ [])) named
    ∙ sym (filter-append p (map id_shown (take at rows)) (id_shown row ∷ [])) ∙ ap (filter p) (sym (map-append id_shown (take at rows) (row ∷ [])) ∙ ap (map id_shown) (sym (take_more rows at row low ∙ ap (λ x. take at rows ++ x ∷ []) (sym is))))
