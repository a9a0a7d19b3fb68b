-- What the statements on links to blobs make of the tables.
use Rattle.std.proofs.Common.{◌≡◌, ℕ, ℤ, List, [], ◌∷◌, true, map, None, Ok, Err, Result, OnOk, IfOk, subst, refl}
use Rattle.std.specs.Prelude.{find, filter}
use Rattle.std.specs.Option.{option_to_list}
use Rattle.std.specs.List.Sorted.{IsPermutation}
use Rattle.sqlite_trees.proofs.ListLemmas.{filter_all, all_of}
use Rattle.sqlite.specs.declared.types.Value.TheVariants.{Null, Text}
use Rattle.sqlite.specs.declared.error.Error.{Error}
use Rattle.sqlite.specs.Order.{Row, column}
use Rattle.sqlite.specs.Cast.{cast_row}
use Rattle.sqlite.specs.Ops.{unary}
use Rattle.sqlite.specs.Schema.{Schema}
use Rattle.sqlite.specs.State.{State, Executes, ExecutesInside, Shown}
use Rattle.store_schema.specs.Schema.{blob_links_table}
use Rattle.store_schema.specs.Layout.{placed, equals}
use Rattle.store_schema.proofs.Lists.{none_found}
use Rattle.store_schema.proofs.Selects.{Answer, is_text, one_test, both_tests}
use Rattle.store_schema.proofs.Writes.{passes, either}
use Rattle.store_contents.specs.Layouts.{Layout}
use Rattle.store_statements.specs.Keys.{of_first, has_key, same_key}
use Rattle.store_statements.specs.Tables.{Tables, AreTables, AreRows, IsBlobRow}
use Rattle.store_statements.specs.Changes.{blob_columns, Comes}
use Rattle.store_statements.specs.BlobTexts.{blob_take, blob_take_all, blob_add, blob_find, blob_sizes, blob_contents}
use Rattle.store_statements.specs.Held.{held, HoldsTables, Becomes}
use Rattle.store_statements.specs.Steps.{blobs_without, BlobComes}
use Rattle.store_statements.proofs.OtherTables.{only_blobs, contents_beside_blobs}
use Rattle.store_statements.proofs.Keys.{key_turned, key_parts}
use Rattle.store_statements.proofs.Selected.{lists, finds}
use Rattle.store_statements.proofs.Statements as statements

put_are : (t : Tables) (rows : List Row) → AreTables t → AreRows IsBlobRow same_key rows → AreTables (record t { blobs = rows })
put_are t rows a r = record { repos = a.repos; grants = a.grants; tags = a.tags; blobs = r; manifests = a.manifests; uploads = a.uploads; pieces = a.pieces }

-- of the key
key_test : (repo digest : List ℕ) (r : Row) → IsBlobRow r → passes (Text repo ∷ Text digest ∷ []) (equals 1 0 ∷ equals 2 1 ∷ []) r ≡ has_key repo digest r
key_test repo digest r it = both_tests _ _ _ _ (is_text (column r 1) _ repo it.repo) (is_text (column r 2) _ digest it.digest)

-- of the repository
repo_test : (repo : List ℕ) (r : Row) → IsBlobRow r → passes (Text repo ∷ []) (equals 1 0 ∷ []) r ≡ of_first repo r
repo_test repo r it = one_test _ _ (is_text (column r 1) _ repo it.repo)

took : {l : Layout} → (repo digest : List ℕ) (old new : State) (n : ℕ) → HoldsTables l old.now → Executes blob_take (Text repo ∷ Text digest ∷ []) old new (Ok n) → (held l new ≡ blobs_without (has_key repo digest) (held l old)) × HoldsTables l new.now
took {l} repo digest old new n h ran = statements.takes blob_links_table IsBlobRow same_key (λ t rows. record t { blobs = rows }) (λ schema k. k.blobs) (λ a b k keeps rows e. only_blobs a b k keeps rows e) (λ a b k keeps is. contents_beside_blobs a b k keeps is) (λ db t. t.blobs) put_are
    blob_take (equals 1 0 ∷ equals 2 1 ∷ []) (Text repo ∷ Text digest ∷ []) (has_key repo digest) old new n h h.known.blobs_alone h.known.blob_texts.take (key_test repo digest) ran

took_all : {l : Layout} → (repo : List ℕ) (old new : State) (n : ℕ) → HoldsTables l old.now → Executes blob_take_all (Text repo ∷ []) old new (Ok n) → (held l new ≡ blobs_without (of_first repo) (held l old)) × HoldsTables l new.now
took_all {l} repo old new n h ran = statements.takes blob_links_table IsBlobRow same_key (λ t rows. record t { blobs = rows }) (λ schema k. k.blobs) (λ a b k keeps rows e. only_blobs a b k keeps rows e) (λ a b k keeps is. contents_beside_blobs a b k keeps is) (λ db t. t.blobs) put_are
    blob_take_all (equals 1 0 ∷ []) (Text repo ∷ []) (of_first repo) old new n h h.known.blobs_alone h.known.blob_texts.take_all (repo_test repo) ran

cast_come : (schema : Schema) (repo digest : List ℕ) (size : ℕ) (content : ℤ) → cast_row (placed schema blob_links_table) (Null ∷ blob_columns repo digest size content) ≡ Null ∷ blob_columns repo digest size content
unfolding unary
cast_come schema repo digest size content = rw (either, either, either)

came : {l : Layout} → (repo digest : List ℕ) (size : ℕ) (content : ℤ) (old new : State) (n : ℕ) → HoldsTables l old.now → find (has_key repo digest) (held l old).blobs ≡ None → Executes blob_add (blob_columns repo digest size content) old new (Ok n)
    → Comes (held l old).blobs (held l new).blobs (blob_columns repo digest size content) × (held l new ≡ record (held l old) { blobs = (held l new).blobs }) × HoldsTables l new.now
came {l} repo digest size content old new n h fresh ran = statements.comes blob_links_table IsBlobRow same_key (λ t rows. record t { blobs = rows }) (λ schema k. k.blobs) (λ a b k keeps rows e. only_blobs a b k keeps rows e) (λ a b k keeps is. contents_beside_blobs a b k keeps is) (λ db t. t.blobs) put_are
    blob_add _ 5 (blob_columns repo digest size content) (blob_columns repo digest size content) old new n h h.known.blob_texts.add refl refl refl (cast_come old.now.schema repo digest size content)
    (λ id. record { repo = refl; digest = refl; size = refl; content = refl }) key_turned (λ id. none_found (has_key repo digest) _ fresh) ran

-- ---- the same of a call's result, inside a transaction

pub took_by : {l : Layout} → (repo digest : List ℕ) (old new : State) (r : Result ℕ Error) → HoldsTables l old.now → ExecutesInside 0 blob_take (Text repo ∷ Text digest ∷ []) old new r → OnOk r (Becomes l new (blobs_without (has_key repo digest) (held l old)))
took_by {l} repo digest old new (Err e) h ran = tt
took_by {l} repo digest old new (Ok n) h ran = let it = took repo digest old new n h ran.0 in (record { inside = ran.1.mode; holds = it.1 }, it.0)

pub took_all_by : {l : Layout} → (repo : List ℕ) (old new : State) (r : Result ℕ Error) → HoldsTables l old.now → ExecutesInside 0 blob_take_all (Text repo ∷ []) old new r → OnOk r (Becomes l new (blobs_without (of_first repo) (held l old)))
took_all_by {l} repo old new (Err e) h ran = tt
took_all_by {l} repo old new (Ok n) h ran = let it = took_all repo old new n h ran.0 in (record { inside = ran.1.mode; holds = it.1 }, it.0)

pub added_by : {l : Layout} → (repo digest : List ℕ) (size : ℕ) (content : ℤ) (old new : State) (r : Result ℕ Error) → HoldsTables l old.now → find (has_key repo digest) (held l old).blobs ≡ None → ExecutesInside 0 blob_add (blob_columns repo digest size content) old new r
    → OnOk r (BlobComes l old new (blob_columns repo digest size content))
added_by {l} repo digest size content old new (Err e) h fresh ran = tt
added_by {l} repo digest size content old new (Ok n) h fresh ran = let it = came repo digest size content old new n h fresh ran.0 in record { ready = record { inside = ran.1.mode; holds = it.2 }; comes = it.0; others = it.1 }

-- ---- what is read

pub found_rows : {l : Layout} → (repo digest : List ℕ) (old new : State) (r : Answer) → HoldsTables l old.now → IfOk r (λ rows. Shown blob_find (Text repo ∷ Text digest ∷ []) old new rows.items)
    → IfOk r (λ rows. rows.items ≡ map (λ r. column r 3 ∷ column r 4 ∷ []) (option_to_list (find (has_key repo digest) (held l old).blobs)))
found_rows {l} repo digest old new r h ran = finds blob_links_table IsBlobRow same_key blob_find _ (equals 1 0 ∷ equals 2 1 ∷ []) _ (Text repo ∷ Text digest ∷ []) (has_key repo digest) old new r h.known.blob_texts.find h.known.blobs.stored h.tables.blobs (key_test repo digest) (key_parts repo digest) ran

pub size_rows : {l : Layout} → (repo : List ℕ) (old new : State) (r : Answer) → HoldsTables l old.now → IfOk r (λ rows. Shown blob_sizes (Text repo ∷ []) old new rows.items)
    → IfOk r (λ rows. IsPermutation (map (λ r. column r 3 ∷ []) (filter (of_first repo) (held l old).blobs)) rows.items)
size_rows {l} repo old new r h ran = lists blob_links_table IsBlobRow same_key blob_sizes _ (equals 1 0 ∷ []) _ (Text repo ∷ []) (of_first repo) old new r h.known.blob_texts.sizes h.known.blobs.stored h.tables.blobs (repo_test repo) ran

pub content_rows : {l : Layout} → (old new : State) (r : Answer) → HoldsTables l old.now → IfOk r (λ rows. Shown blob_contents [] old new rows.items) → IfOk r (λ rows. IsPermutation (map (λ r. column r 4 ∷ []) (held l old).blobs) rows.items)
content_rows {l} old new r h ran = subst (λ xs. IfOk r (λ rows. IsPermutation (map (λ r. column r 4 ∷ []) xs) rows.items)) (filter_all (λ _. true) _ (all_of _ (λ r. refl) _))
    (lists blob_links_table IsBlobRow same_key blob_contents _ [] _ [] (λ _. true) old new r h.known.blob_texts.contents h.known.blobs.stored h.tables.blobs (λ r it. refl) ran)
