-- What the statements on the old rows of upload sessions make of the tables, and show.
use Rattle.std.proofs.Common.{◌≡◌, ◌∙◌, ℕ, List, [], ◌∷◌, map, true, pos, Ok, Err, Result, OnOk, IfOk, IsOkAnd, slice_get, refl, sym, ap, subst}
use Rattle.std.specs.Prelude.{Option, Vec, find, option_map, string_bytes}
use Rattle.std.specs.Option.{option_to_list}
use Rattle.std.specs.declared.alloc.Global.{Global}
use Rattle.std.specs.List.Sorted.{IsPermutation}
use Rattle.sqlite_trees.proofs.ListLemmas.{filter_all, all_of}
use Rattle.sqlite.specs.declared.types.Value.TheVariants.{Text, Int}
use Rattle.sqlite.specs.declared.error.Error.{Error}
use Rattle.sqlite.specs.Order.{Row, column}
use Rattle.oci_types.specs.declared.fault.Fault.{Fault}
use Rattle.sqlite.specs.State.{State, Executes, ExecutesInside, Shown}
use Rattle.store_schema.specs.OldSchema.{old_blobs_table, old_manifests_table, old_sessions_table}
use Rattle.store_schema.specs.Rows.{bytes_at, natural_at}
use Rattle.store_schema.specs.Layout.{rows_of, equals}
use Rattle.store_schema.proofs.Selects.{Answer, is_text, both_tests}
use Rattle.store_schema.proofs.Writes.{passes, rows_in}
use Rattle.store_contents.specs.Layouts.{InTables}
use Rattle.store_statements.specs.Keys.{of_session, same_session}
use Rattle.store_statements.specs.Tables.{Beside, AreRows}
use Rattle.store_statements.specs.Changes.{without}
use Rattle.store_statements.specs.Held.{held, HoldsTables, Becomes}
use Rattle.store_statements.proofs.SessionKeys.{is_number, session_parts}
use Rattle.store_statements.proofs.Selected.{lists, finds, permutation_read}
use Rattle.store_migration.specs.OldTables.{IsOldSessionRow}
use Rattle.store_migration.specs.OldTexts.{session_keys, session_bytes, session_take}
use Rattle.store_migration.specs.Listed.{session_of}
use Rattle.store_migration.specs.declared.old_keys.SessionKey.{SessionKey}
use Rattle.store_migration.specs.Shown.{AllShown, session_shown, text_and_number, shown}
use Rattle.store_migration.specs.Olds.{HasOlds, old_of, with_olds}
use Rattle.store_migration.proofs.Read.{read_of, first_shown}
use Rattle.store_migration.proofs.KeyRows.{sessions_told}
use Rattle.store_migration.proofs.OldRows.{blobs_are, manifests_are, sessions_are, further, besides, takes, Takes}

key_test : (repo : List ℕ) (number : ℕ) (r : Row) → IsOldSessionRow r → passes (Text repo ∷ Int (pos number) ∷ []) (equals 1 0 ∷ equals 2 1 ∷ []) r ≡ of_session repo number r
key_test repo number r it = both_tests _ _ _ _ (is_text (column r 1) _ repo it.repo) (is_number (column r 2) _ number it.number)

are_rows : (s : State) → HasOlds (held InTables s) → AreRows IsOldSessionRow same_session (rows_of s.now old_sessions_table)
are_rows s o = subst (AreRows IsOldSessionRow same_session) (sessions_are s.now o.known) o.rows.sessions

-- ---- a DELETE

took : (repo : List ℕ) (number : ℕ) (old new : State) (n : ℕ) → HoldsTables InTables old.now → HasOlds (held InTables old) → Executes session_take (Text repo ∷ Int (pos number) ∷ []) old new (Ok n)
    → (held InTables new ≡ with_olds (held InTables old) (record (old_of (held InTables old)) { sessions = without (of_session repo number) (old_of (held InTables old)).sessions })) × HoldsTables InTables new.now
took repo number old new n h o ran =
    let a = o.known.apart in
    let here = sessions_are old.now o.known in
    let t : Takes old_sessions_table (of_session repo number) old.now new.now = takes old_sessions_table IsOldSessionRow same_session session_take (equals 1 0 ∷ equals 2 1 ∷ []) (Text repo ∷ Int (pos number) ∷ []) (of_session repo number) old new n o.known.sessions o.known.sessions_alone (are_rows old o) o.known.session_texts.take_mean (key_test repo number) ran in
    let now = further old_sessions_table old.now new.now h (a.1.1.0, a.1.1.1) t.keeps in
    (now.0 ∙ ap (λ (b : Beside). record (held InTables old) { beside = b }) (besides old.now new.now o.known t.keeps.schema _ _ _ (rows_in old.now new.now old_sessions_table old_blobs_table o.known.blobs t.keeps (a.0.1.0) ∙ sym (blobs_are old.now o.known)) (rows_in old.now new.now old_sessions_table old_manifests_table o.known.manifests t.keeps (a.1.0.0) ∙ sym (manifests_are old.now o.known)) (t.rows ∙ ap (without (of_session repo number)) (sym here))), now.1)

pub took_by : (repo : List ℕ) (number : ℕ) (old new : State) (r : Result ℕ Error) → HoldsTables InTables old.now → HasOlds (held InTables old) → ExecutesInside 0 session_take (Text repo ∷ Int (pos number) ∷ []) old new r
    → OnOk r (Becomes InTables new (with_olds (held InTables old) (record (old_of (held InTables old)) { sessions = without (of_session repo number) (old_of (held InTables old)).sessions })))
took_by repo number old new (Err e) h o ran = tt
took_by repo number old new (Ok n) h o ran = let it = took repo number old new n h o ran.0 in (record { inside = ran.1.mode; holds = it.1 }, it.0)

-- ---- what is read

key_rows : (old new : State) (r : Answer) → HasOlds (held InTables old) → IfOk r (λ rows. Shown session_keys [] old new rows.items) → IfOk r (λ rows. IsPermutation (map (λ r. column r 1 ∷ column r 2 ∷ []) (old_of (held InTables old)).sessions) rows.items)
key_rows old new r o ran = subst (λ xs. IfOk r (λ rows. IsPermutation (map (λ r. column r 1 ∷ column r 2 ∷ []) xs) rows.items)) (filter_all (λ _. true) _ (all_of _ (λ r. refl) _) ∙ sym (sessions_are old.now o.known))
    (lists old_sessions_table IsOldSessionRow same_session session_keys _ [] _ [] (λ _. true) old new r o.known.session_texts.keys_mean o.known.sessions.stored (are_rows old o) (λ r it. refl) ran)

byte_rows : (repo : List ℕ) (number : ℕ) (old new : State) (r : Answer) → HasOlds (held InTables old) → IfOk r (λ rows. Shown session_bytes (Text repo ∷ Int (pos number) ∷ []) old new rows.items)
    → IfOk r (λ rows. rows.items ≡ map (λ r. column r 4 ∷ []) (option_to_list (find (of_session repo number) (old_of (held InTables old)).sessions)))
byte_rows repo number old new r o ran = subst (λ xs. IfOk r (λ rows. rows.items ≡ map (λ r. column r 4 ∷ []) (option_to_list (find (of_session repo number) xs)))) (sym (sessions_are old.now o.known))
    (finds old_sessions_table IsOldSessionRow same_session session_bytes _ (equals 1 0 ∷ equals 2 1 ∷ []) _ (Text repo ∷ Int (pos number) ∷ []) (of_session repo number) old new r o.known.session_texts.bytes_mean o.known.sessions.stored (are_rows old o) (key_test repo number) (session_parts repo number) ran)

-- ---- what is read of it

pub keys_read : (old new : State) (r : Answer) (k : Result (Vec SessionKey Global) Fault) → HasOlds (held InTables old) → IfOk k (λ keys. IsOkAnd r (λ found. AllShown (λ row key. (string_bytes key.repo ≡ bytes_at row 0) × (key.number ≡ natural_at row 1)) found.items keys.items)) → IfOk r (λ rows. Shown session_keys [] old new rows.items)
    → IfOk k (λ keys. IsPermutation (map session_of (old_of (held InTables old)).sessions) (map session_shown keys.items))
keys_read old new r k o read ran =
    read_of r k (λ keys found. AllShown (λ row key. (string_bytes key.repo ≡ bytes_at row 0) × (key.number ≡ natural_at row 1)) found.items keys.items) (λ rows. IsPermutation (map (λ r. column r 1 ∷ column r 2 ∷ []) (old_of (held InTables old)).sessions) rows.items) (λ keys. IsPermutation (map session_of (old_of (held InTables old)).sessions) (map session_shown keys.items))
    (λ keys rows reads shown. permutation_read (λ r. column r 1 ∷ column r 2 ∷ []) session_of text_and_number (old_of (held InTables old)).sessions rows.items (map session_shown keys.items) (λ r i. session_of r) shown (sessions_told rows.items keys.items reads))
    read (key_rows old new r o ran)

pub bytes_read : (repo : List ℕ) (number : ℕ) (old new : State) (r : Answer) (b : Result (Option (Vec ℕ Global)) Fault) → HasOlds (held InTables old) → IfOk b (λ o. IsOkAnd r (λ found. shown o ≡ option_map (λ r. bytes_at r 0) (slice_get found.items 0)))
    → IfOk r (λ rows. Shown session_bytes (Text repo ∷ Int (pos number) ∷ []) old new rows.items) → IfOk b (λ o. shown o ≡ option_map (λ r. bytes_at r 4) (find (of_session repo number) (old_of (held InTables old)).sessions))
bytes_read repo number old new r b o read ran =
    read_of r b (λ o found. shown o ≡ option_map (λ r. bytes_at r 0) (slice_get found.items 0)) (λ rows. rows.items ≡ map (λ r. column r 4 ∷ []) (option_to_list (find (of_session repo number) (old_of (held InTables old)).sessions))) (λ o. shown o ≡ option_map (λ r. bytes_at r 4) (find (of_session repo number) (old_of (held InTables old)).sessions))
    (λ o rows reads row. reads ∙ first_shown (λ r. column r 4 ∷ []) (λ r. bytes_at r 4) (λ r. bytes_at r 0) (find (of_session repo number) (old_of (held InTables old)).sessions) rows.items (λ r i. bytes_at r 4) row)
    read (byte_rows repo number old new r o ran)
