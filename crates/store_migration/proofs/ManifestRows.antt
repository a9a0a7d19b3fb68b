-- What the statements on the old rows of manifests make of the tables, and show.
use Rattle.std.proofs.Common.{◌≡◌, ◌∙◌, ℕ, List, [], ◌∷◌, map, true, Ok, Err, Result, OnOk, IfOk, IsOkAnd, slice_get, refl, sym, ap, subst}
use Rattle.std.specs.Prelude.{Option, Vec, find, option_map, string_bytes}
use Rattle.std.specs.Option.{option_to_list}
use Rattle.std.specs.declared.alloc.Global.{Global}
use Rattle.std.specs.List.Sorted.{IsPermutation}
use Rattle.sqlite_trees.proofs.ListLemmas.{filter_all, all_of}
use Rattle.sqlite.specs.declared.types.Value.TheVariants.{Text}
use Rattle.sqlite.specs.declared.error.Error.{Error}
use Rattle.sqlite.specs.Order.{Row, column}
use Rattle.oci_types.specs.declared.fault.Fault.{Fault}
use Rattle.sqlite.specs.State.{State, Executes, ExecutesInside, Shown}
use Rattle.store_schema.specs.OldSchema.{old_blobs_table, old_manifests_table, old_sessions_table}
use Rattle.store_schema.specs.Rows.{bytes_at}
use Rattle.store_schema.specs.Layout.{rows_of, equals}
use Rattle.store_schema.proofs.Selects.{Answer, is_text, both_tests}
use Rattle.store_schema.proofs.Writes.{passes, rows_in}
use Rattle.store_contents.specs.Layouts.{InTables}
use Rattle.store_statements.specs.Keys.{has_key, same_key}
use Rattle.store_statements.specs.Tables.{Beside, AreRows}
use Rattle.store_statements.specs.Changes.{without}
use Rattle.store_statements.specs.Held.{held, HoldsTables, Becomes}
use Rattle.store_statements.proofs.Keys.{key_parts}
use Rattle.store_statements.proofs.Selected.{lists, finds, permutation_read}
use Rattle.store_migration.specs.OldTables.{IsOldManifestRow}
use Rattle.store_migration.specs.OldTexts.{manifest_keys, manifest_bytes, manifest_take}
use Rattle.store_migration.specs.Listed.{key_of}
use Rattle.store_migration.specs.declared.old_keys.Key.{Key}
use Rattle.store_migration.specs.Shown.{AllShown, key_shown, two_texts, shown}
use Rattle.store_migration.specs.Olds.{HasOlds, old_of, with_olds}
use Rattle.store_migration.proofs.Read.{read_of, first_shown}
use Rattle.store_migration.proofs.KeyRows.{keys_told}
use Rattle.store_migration.proofs.OldRows.{blobs_are, manifests_are, sessions_are, further, besides, takes, Takes}

key_test : (repo digest : List ℕ) (r : Row) → IsOldManifestRow r → passes (Text repo ∷ Text digest ∷ []) (equals 1 0 ∷ equals 2 1 ∷ []) r ≡ has_key repo digest r
key_test repo digest r it = both_tests _ _ _ _ (is_text (column r 1) _ repo it.repo) (is_text (column r 2) _ digest it.digest)

are_rows : (s : State) → HasOlds (held InTables s) → AreRows IsOldManifestRow same_key (rows_of s.now old_manifests_table)
are_rows s o = subst (AreRows IsOldManifestRow same_key) (manifests_are s.now o.known) o.rows.manifests

-- ---- a DELETE

took : (repo digest : List ℕ) (old new : State) (n : ℕ) → HoldsTables InTables old.now → HasOlds (held InTables old) → Executes manifest_take (Text repo ∷ Text digest ∷ []) old new (Ok n)
    → (held InTables new ≡ with_olds (held InTables old) (record (old_of (held InTables old)) { manifests = without (has_key repo digest) (old_of (held InTables old)).manifests })) × HoldsTables InTables new.now
took repo digest old new n h o ran =
    let a = o.known.apart in
    let here = manifests_are old.now o.known in
    let t : Takes old_manifests_table (has_key repo digest) old.now new.now = takes old_manifests_table IsOldManifestRow same_key manifest_take (equals 1 0 ∷ equals 2 1 ∷ []) (Text repo ∷ Text digest ∷ []) (has_key repo digest) old new n o.known.manifests o.known.manifests_alone (are_rows old o) o.known.manifest_texts.take_mean (key_test repo digest) ran in
    let now = further old_manifests_table old.now new.now h (a.1.0.1, a.1.1.1) t.keeps in
    (now.0 ∙ ap (λ (b : Beside). record (held InTables old) { beside = b }) (besides old.now new.now o.known t.keeps.schema _ _ _ (rows_in old.now new.now old_manifests_table old_blobs_table o.known.blobs t.keeps (a.0.0) ∙ sym (blobs_are old.now o.known)) (t.rows ∙ ap (without (has_key repo digest)) (sym here)) (rows_in old.now new.now old_manifests_table old_sessions_table o.known.sessions t.keeps (λ e. a.1.0.0 (sym e)) ∙ sym (sessions_are old.now o.known))), now.1)

pub took_by : (repo digest : List ℕ) (old new : State) (r : Result ℕ Error) → HoldsTables InTables old.now → HasOlds (held InTables old) → ExecutesInside 0 manifest_take (Text repo ∷ Text digest ∷ []) old new r
    → OnOk r (Becomes InTables new (with_olds (held InTables old) (record (old_of (held InTables old)) { manifests = without (has_key repo digest) (old_of (held InTables old)).manifests })))
took_by repo digest old new (Err e) h o ran = tt
took_by repo digest old new (Ok n) h o ran = let it = took repo digest old new n h o ran.0 in (record { inside = ran.1.mode; holds = it.1 }, it.0)

-- ---- what is read

key_rows : (old new : State) (r : Answer) → HasOlds (held InTables old) → IfOk r (λ rows. Shown manifest_keys [] old new rows.items) → IfOk r (λ rows. IsPermutation (map (λ r. column r 1 ∷ column r 2 ∷ []) (old_of (held InTables old)).manifests) rows.items)
key_rows old new r o ran = subst (λ xs. IfOk r (λ rows. IsPermutation (map (λ r. column r 1 ∷ column r 2 ∷ []) xs) rows.items)) (filter_all (λ _. true) _ (all_of _ (λ r. refl) _) ∙ sym (manifests_are old.now o.known))
    (lists old_manifests_table IsOldManifestRow same_key manifest_keys _ [] _ [] (λ _. true) old new r o.known.manifest_texts.keys_mean o.known.manifests.stored (are_rows old o) (λ r it. refl) ran)

byte_rows : (repo digest : List ℕ) (old new : State) (r : Answer) → HasOlds (held InTables old) → IfOk r (λ rows. Shown manifest_bytes (Text repo ∷ Text digest ∷ []) old new rows.items)
    → IfOk r (λ rows. rows.items ≡ map (λ r. column r 6 ∷ []) (option_to_list (find (has_key repo digest) (old_of (held InTables old)).manifests)))
byte_rows repo digest old new r o ran = subst (λ xs. IfOk r (λ rows. rows.items ≡ map (λ r. column r 6 ∷ []) (option_to_list (find (has_key repo digest) xs)))) (sym (manifests_are old.now o.known))
    (finds old_manifests_table IsOldManifestRow same_key manifest_bytes _ (equals 1 0 ∷ equals 2 1 ∷ []) _ (Text repo ∷ Text digest ∷ []) (has_key repo digest) old new r o.known.manifest_texts.bytes_mean o.known.manifests.stored (are_rows old o) (key_test repo digest) (key_parts repo digest) ran)

-- ---- what is read of it

pub keys_read : (old new : State) (r : Answer) (k : Result (Vec Key Global) Fault) → HasOlds (held InTables old) → IfOk k (λ keys. IsOkAnd r (λ found. AllShown (λ row key. (string_bytes key.repo ≡ bytes_at row 0) × (string_bytes key.digest ≡ bytes_at row 1)) found.items keys.items)) → IfOk r (λ rows. Shown manifest_keys [] old new rows.items)
    → IfOk k (λ keys. IsPermutation (map key_of (old_of (held InTables old)).manifests) (map key_shown keys.items))
keys_read old new r k o read ran =
    read_of r k (λ keys found. AllShown (λ row key. (string_bytes key.repo ≡ bytes_at row 0) × (string_bytes key.digest ≡ bytes_at row 1)) found.items keys.items) (λ rows. IsPermutation (map (λ r. column r 1 ∷ column r 2 ∷ []) (old_of (held InTables old)).manifests) rows.items) (λ keys. IsPermutation (map key_of (old_of (held InTables old)).manifests) (map key_shown keys.items))
    (λ keys rows reads shown. permutation_read (λ r. column r 1 ∷ column r 2 ∷ []) key_of two_texts (old_of (held InTables old)).manifests rows.items (map key_shown keys.items) (λ r i. key_of r) shown (keys_told rows.items keys.items reads))
    read (key_rows old new r o ran)

pub bytes_read : (repo digest : List ℕ) (old new : State) (r : Answer) (b : Result (Option (Vec ℕ Global)) Fault) → HasOlds (held InTables old) → IfOk b (λ o. IsOkAnd r (λ found. shown o ≡ option_map (λ r. bytes_at r 0) (slice_get found.items 0)))
    → IfOk r (λ rows. Shown manifest_bytes (Text repo ∷ Text digest ∷ []) old new rows.items) → IfOk b (λ o. shown o ≡ option_map (λ r. bytes_at r 6) (find (has_key repo digest) (old_of (held InTables old)).manifests))
bytes_read repo digest old new r b o read ran =
    read_of r b (λ o found. shown o ≡ option_map (λ r. bytes_at r 0) (slice_get found.items 0)) (λ rows. rows.items ≡ map (λ r. column r 6 ∷ []) (option_to_list (find (has_key repo digest) (old_of (held InTables old)).manifests))) (λ o. shown o ≡ option_map (λ r. bytes_at r 6) (find (has_key repo digest) (old_of (held InTables old)).manifests))
    (λ o rows reads row. reads ∙ first_shown (λ r. column r 6 ∷ []) (λ r. bytes_at r 6) (λ r. bytes_at r 0) (find (has_key repo digest) (old_of (held InTables old)).manifests) rows.items (λ r i. bytes_at r 6) row)
    read (byte_rows repo digest old new r o ran)
