-- What the statements on upload sessions make of the tables.
use Rattle.std.proofs.Common.{◌≡◌, ℕ, ℤ, pos, List, [], ◌∷◌, map, None, Ok, Err, Result, OnOk, IfOk, length, refl}
use Rattle.std.specs.Prelude.{find, filter}
use Rattle.std.specs.Option.{option_to_list}
use Rattle.std.specs.List.Sorted.{IsPermutation}
use Rattle.sqlite.specs.declared.types.Value.TheVariants.{Null, Int, Text}
use Rattle.sqlite.specs.declared.error.Error.{Error}
use Rattle.sqlite.specs.Order.{Row, column}
use Rattle.sqlite.specs.Cast.{cast_row}
use Rattle.sqlite.specs.Ops.{unary}
use Rattle.sqlite.specs.Schema.{Schema}
use Rattle.sqlite.specs.Tree.{rowid}
use Rattle.sqlite.specs.State.{State, Executes, ExecutesInside, Shown}
use Rattle.sqlite_rules.specs.Edit.{id_in}
use Rattle.store_schema.specs.Schema.{uploads_table}
use Rattle.store_schema.specs.Layout.{placed, equals}
use Rattle.store_schema.proofs.Lists.{none_found}
use Rattle.store_schema.proofs.Selects.{Answer, is_text, one_test, both_tests}
use Rattle.store_schema.proofs.Writes.{passes, either}
use Rattle.store_contents.specs.Layouts.{Layout}
use Rattle.store_statements.specs.Keys.{of_first, of_session, same_session}
use Rattle.store_statements.specs.Tables.{Tables, AreTables, AreRows, IsUploadRow}
use Rattle.store_statements.specs.Changes.{with_size, upload_columns, Comes}
use Rattle.store_statements.specs.UploadTexts.{upload_take, upload_take_all, upload_set_size, upload_add, upload_find, upload_sizes}
use Rattle.store_statements.specs.Held.{held, HoldsTables, Becomes}
use Rattle.store_statements.specs.Steps.{uploads_without, uploads_changed, UploadComes}
use Rattle.store_statements.proofs.OtherTables.{only_uploads, contents_beside_uploads}
use Rattle.store_statements.proofs.SessionKeys.{is_number, session_turned, session_parts}
use Rattle.store_statements.proofs.Selected.{lists, finds}
use Rattle.store_statements.proofs.Statements as statements

put_are : (t : Tables) (rows : List Row) → AreTables t → AreRows IsUploadRow same_session rows → AreTables (record t { uploads = rows })
put_are t rows a r = record { repos = a.repos; grants = a.grants; tags = a.tags; blobs = a.blobs; manifests = a.manifests; uploads = r; pieces = a.pieces }

-- of the session
session_test : (repo : List ℕ) (number : ℕ) (more : Row) (r : Row) → IsUploadRow r → passes (Text repo ∷ Int (pos number) ∷ more) (equals 1 0 ∷ equals 2 1 ∷ []) r ≡ of_session repo number r
session_test repo number more r it = both_tests _ _ _ _ (is_text (column r 1) _ repo it.repo) (is_number (column r 2) _ number it.number)

-- of the repository
repo_test : (repo : List ℕ) (r : Row) → IsUploadRow r → passes (Text repo ∷ []) (equals 1 0 ∷ []) r ≡ of_first repo r
repo_test repo r it = one_test _ _ (is_text (column r 1) _ repo it.repo)

took : {l : Layout} → (repo : List ℕ) (number : ℕ) (old new : State) (n : ℕ) → HoldsTables l old.now → Executes upload_take (Text repo ∷ Int (pos number) ∷ []) old new (Ok n) → (held l new ≡ uploads_without (of_session repo number) (held l old)) × HoldsTables l new.now
took {l} repo number old new n h ran = statements.takes uploads_table IsUploadRow same_session (λ t rows. record t { uploads = rows }) (λ schema k. k.uploads) (λ a b k keeps rows e. only_uploads a b k keeps rows e) (λ a b k keeps is. contents_beside_uploads a b k keeps is) (λ db t. t.uploads) put_are
    upload_take (equals 1 0 ∷ equals 2 1 ∷ []) (Text repo ∷ Int (pos number) ∷ []) (of_session repo number) old new n h h.known.uploads_alone h.known.upload_texts.take (session_test repo number []) ran

took_all : {l : Layout} → (repo : List ℕ) (old new : State) (n : ℕ) → HoldsTables l old.now → Executes upload_take_all (Text repo ∷ []) old new (Ok n) → (held l new ≡ uploads_without (of_first repo) (held l old)) × HoldsTables l new.now
took_all {l} repo old new n h ran = statements.takes uploads_table IsUploadRow same_session (λ t rows. record t { uploads = rows }) (λ schema k. k.uploads) (λ a b k keeps rows e. only_uploads a b k keeps rows e) (λ a b k keeps is. contents_beside_uploads a b k keeps is) (λ db t. t.uploads) put_are
    upload_take_all (equals 1 0 ∷ []) (Text repo ∷ []) (of_first repo) old new n h h.known.uploads_alone h.known.upload_texts.take_all (repo_test repo) ran

cast_set : (schema : Schema) (id : ℤ) (repo : List ℕ) (number size : ℕ) → cast_row (placed schema uploads_table) (Int id ∷ Text repo ∷ Int (pos number) ∷ Int (pos size) ∷ []) ≡ Int id ∷ Text repo ∷ Int (pos number) ∷ Int (pos size) ∷ []
unfolding unary
cast_set schema id repo number size = rw (either, either, either)

cast_row_set : (schema : Schema) (size : ℕ) (r : Row) → IsUploadRow r → rowid r ≡ Int (id_in (rowid r)) → cast_row (placed schema uploads_table) (with_size size r) ≡ with_size size r
cast_row_set schema size r it id = rw (id, it.repo, it.number) (cast_set schema _ _ _ size)

was_set : {l : Layout} → (repo : List ℕ) (number size : ℕ) (old new : State) (n : ℕ) → HoldsTables l old.now → Executes upload_set_size (Text repo ∷ Int (pos number) ∷ Int (pos size) ∷ []) old new (Ok n)
    → (n ≡ length (filter (of_session repo number) (held l old).uploads)) × (held l new ≡ uploads_changed (of_session repo number) (with_size size) (held l old)) × HoldsTables l new.now
was_set {l} repo number size old new n h ran = statements.changes uploads_table IsUploadRow same_session (λ t rows. record t { uploads = rows }) (λ schema k. k.uploads) (λ a b k keeps rows e. only_uploads a b k keeps rows e) (λ a b k keeps is. contents_beside_uploads a b k keeps is) (λ db t. t.uploads) put_are
    upload_set_size (equals 1 0 ∷ equals 2 1 ∷ []) _ (Text repo ∷ Int (pos number) ∷ Int (pos size) ∷ []) (of_session repo number) (with_size size) old new n h h.known.upload_texts.set_size (session_test repo number (Int (pos size) ∷ []))
    (session_parts repo number) (λ r. refl) (λ r. refl) (cast_row_set old.now.schema size)
    (λ r it. record { repo = it.repo; number = it.number; size = refl }) (λ a r. refl) (λ a r. refl) ran

cast_come : (schema : Schema) (repo : List ℕ) (number : ℕ) → cast_row (placed schema uploads_table) (Null ∷ upload_columns repo number) ≡ Null ∷ upload_columns repo number
unfolding unary
cast_come schema repo number = rw (either, either, either)

came : {l : Layout} → (repo : List ℕ) (number : ℕ) (old new : State) (n : ℕ) → HoldsTables l old.now → find (of_session repo number) (held l old).uploads ≡ None → Executes upload_add (Text repo ∷ Int (pos number) ∷ []) old new (Ok n)
    → Comes (held l old).uploads (held l new).uploads (upload_columns repo number) × (held l new ≡ record (held l old) { uploads = (held l new).uploads }) × HoldsTables l new.now
came {l} repo number old new n h fresh ran = statements.comes uploads_table IsUploadRow same_session (λ t rows. record t { uploads = rows }) (λ schema k. k.uploads) (λ a b k keeps rows e. only_uploads a b k keeps rows e) (λ a b k keeps is. contents_beside_uploads a b k keeps is) (λ db t. t.uploads) put_are
    upload_add _ 4 (Text repo ∷ Int (pos number) ∷ []) (upload_columns repo number) old new n h h.known.upload_texts.add refl refl refl (cast_come old.now.schema repo number)
    (λ id. record { repo = refl; number = refl; size = refl }) session_turned (λ id. none_found (of_session repo number) _ fresh) ran

-- ---- the same of a call's result, inside a transaction

pub took_by : {l : Layout} → (repo : List ℕ) (number : ℕ) (old new : State) (r : Result ℕ Error) → HoldsTables l old.now → ExecutesInside 0 upload_take (Text repo ∷ Int (pos number) ∷ []) old new r → OnOk r (Becomes l new (uploads_without (of_session repo number) (held l old)))
took_by {l} repo number old new (Err e) h ran = tt
took_by {l} repo number old new (Ok n) h ran = let it = took repo number old new n h ran.0 in (record { inside = ran.1.mode; holds = it.1 }, it.0)

pub took_all_by : {l : Layout} → (repo : List ℕ) (old new : State) (r : Result ℕ Error) → HoldsTables l old.now → ExecutesInside 0 upload_take_all (Text repo ∷ []) old new r → OnOk r (Becomes l new (uploads_without (of_first repo) (held l old)))
took_all_by {l} repo old new (Err e) h ran = tt
took_all_by {l} repo old new (Ok n) h ran = let it = took_all repo old new n h ran.0 in (record { inside = ran.1.mode; holds = it.1 }, it.0)

pub set_by : {l : Layout} → (repo : List ℕ) (number size : ℕ) (old new : State) (r : Result ℕ Error) → HoldsTables l old.now → ExecutesInside 0 upload_set_size (Text repo ∷ Int (pos number) ∷ Int (pos size) ∷ []) old new r
    → OnOk r (Becomes l new (uploads_changed (of_session repo number) (with_size size) (held l old))) × IfOk r (λ n. n ≡ length (filter (of_session repo number) (held l old).uploads))
set_by {l} repo number size old new (Err e) h ran = (tt, tt)
set_by {l} repo number size old new (Ok n) h ran = let it = was_set repo number size old new n h ran.0 in ((record { inside = ran.1.mode; holds = it.2 }, it.1), it.0)

pub added_by : {l : Layout} → (repo : List ℕ) (number : ℕ) (old new : State) (r : Result ℕ Error) → HoldsTables l old.now → find (of_session repo number) (held l old).uploads ≡ None → ExecutesInside 0 upload_add (Text repo ∷ Int (pos number) ∷ []) old new r
    → OnOk r (UploadComes l old new (upload_columns repo number))
added_by {l} repo number old new (Err e) h fresh ran = tt
added_by {l} repo number old new (Ok n) h fresh ran = let it = came repo number old new n h fresh ran.0 in record { ready = record { inside = ran.1.mode; holds = it.2 }; comes = it.0; others = it.1 }

-- ---- what is read

pub found_rows : {l : Layout} → (repo : List ℕ) (number : ℕ) (old new : State) (r : Answer) → HoldsTables l old.now → IfOk r (λ rows. Shown upload_find (Text repo ∷ Int (pos number) ∷ []) old new rows.items)
    → IfOk r (λ rows. rows.items ≡ map (λ r. column r 3 ∷ []) (option_to_list (find (of_session repo number) (held l old).uploads)))
found_rows {l} repo number old new r h ran = finds uploads_table IsUploadRow same_session upload_find _ (equals 1 0 ∷ equals 2 1 ∷ []) _ (Text repo ∷ Int (pos number) ∷ []) (of_session repo number) old new r h.known.upload_texts.find h.known.uploads.stored h.tables.uploads (session_test repo number []) (session_parts repo number) ran

pub size_rows : {l : Layout} → (repo : List ℕ) (old new : State) (r : Answer) → HoldsTables l old.now → IfOk r (λ rows. Shown upload_sizes (Text repo ∷ []) old new rows.items)
    → IfOk r (λ rows. IsPermutation (map (λ r. column r 3 ∷ []) (filter (of_first repo) (held l old).uploads)) rows.items)
size_rows {l} repo old new r h ran = lists uploads_table IsUploadRow same_session upload_sizes _ (equals 1 0 ∷ []) _ (Text repo ∷ []) (of_first repo) old new r h.known.upload_texts.sizes h.known.uploads.stored h.tables.uploads (repo_test repo) ran
