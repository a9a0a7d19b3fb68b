-- What the queries on links to manifests show of them.
use Rattle.std.proofs.Common.{◌≡◌, ℕ, List, [], ◌∷◌, map, IfOk, Ok, Err, subst, refl, ◌⊎◌, inl, inr, true}
use Rattle.std.specs.Prelude.{filter, find, bytes_eq}
use Rattle.std.specs.Option.{option_to_list}
use Rattle.std.specs.List.Sorted.{IsPermutation}
use Rattle.sqlite_trees.proofs.ListLemmas.{filter_all, all_of}
use Rattle.sqlite.specs.declared.types.Value.{Value}
use Rattle.sqlite.specs.declared.types.Value.TheVariants.{Null, Text}
use Rattle.sqlite.specs.Collation.TheVariants.{Binary}
use Rattle.sqlite.specs.Ops.{binary, is_true}
use Rattle.sqlite_sql.specs.declared.ops.BinaryOp.TheVariants.{Compare}
use Rattle.sqlite_sql.specs.declared.ops.CompareOp.TheVariants.{Eq}
use Rattle.sqlite_keyed.specs.Lists.{sort_by}
use Rattle.oci_types.specs.Digest.{is_digest}
use Rattle.sqlite.specs.Order.{column, bytes}
use Rattle.sqlite.specs.State.{State, Shown}
use Rattle.store_schema.proofs.Selects.{Answer, shows, is_text, one_test, both_tests}
use Rattle.store_contents.specs.Layouts.{Layout}
use Rattle.store_statements.specs.Keys.{of_first, has_key, on_subject}
use Rattle.store_statements.specs.Tables.{IsManifestRow}
use Rattle.store_statements.specs.ManifestTexts.{manifest_find, manifest_subject, manifest_sizes, manifest_contents}
use Rattle.store_statements.specs.Held.{HoldsTables, held}
use Rattle.store_statements.proofs.Keys.{key_parts, both_true}
use Rattle.store_statements.proofs.InOrder.{orders}
use Rattle.store_statements.specs.ManifestShown.{by_second}
use Rattle.store_statements.proofs.SelectedRows.{lists, finds}

pub link_rows_shown : {l : Layout} → (old new : State) (repo digest : List ℕ) (r : Answer) → HoldsTables l old.now → IfOk r (λ rows. Shown manifest_find (Text repo ∷ Text digest ∷ []) old new rows.items)
    → IfOk r (λ rows. rows.items ≡ map (λ r. column r 3 ∷ column r 4 ∷ column r 6 ∷ []) (option_to_list (find (has_key repo digest) (held l old).manifests)))
link_rows_shown {l} old new repo digest r h ran = finds IsManifestRow manifest_find _ _ _ _ (Text repo ∷ Text digest ∷ []) (has_key repo digest) old new h.known.manifests.stored h.tables.manifests.types h.known.manifest_texts.find
    (λ r it. both_tests _ _ _ _ (is_text (column r 1) _ repo it.repo) (is_text (column r 2) _ digest it.digest)) _ (key_parts repo digest) h.tables.manifests.apart r ran

pub sizes_shown : {l : Layout} → (old new : State) (repo : List ℕ) (r : Answer) → HoldsTables l old.now → IfOk r (λ rows. Shown manifest_sizes (Text repo ∷ []) old new rows.items)
    → IfOk r (λ rows. IsPermutation (map (λ r. column r 3 ∷ []) (filter (of_first repo) (held l old).manifests)) rows.items)
sizes_shown {l} old new repo r h ran = lists IsManifestRow manifest_sizes _ _ _ _ (Text repo ∷ []) (of_first repo) old new h.known.manifests.stored h.tables.manifests.types h.known.manifest_texts.sizes
    (λ r it. one_test _ _ (is_text (column r 1) _ repo it.repo)) r ran

-- of all rows
pub contents_shown : {l : Layout} → (old new : State) (r : Answer) → HoldsTables l old.now → IfOk r (λ rows. Shown manifest_contents [] old new rows.items)
    → IfOk r (λ rows. IsPermutation (map (λ r. column r 6 ∷ []) (held l old).manifests) rows.items)
contents_shown {l} old new (Err e) h ran = tt
contents_shown {l} old new (Ok rows) h ran =
    subst (λ xs. IsPermutation (map (λ r. column r 6 ∷ []) xs) rows.items) (filter_all _ (held l old).manifests (all_of _ (λ r. refl) (held l old).manifests))
    (shows old.now.schema manifest_contents _ _ [] _ [] old new rows.items refl h.known.manifest_texts.contents h.known.manifests.stored ran)

-- ---- by their subject

-- NULL is no digest
subject_test : (v : Value) (digest : List ℕ) → is_digest digest ≡ true → (v ≡ Null) ⊎ (v ≡ Text (bytes v)) → is_true (binary (Compare Eq Binary) v (Text digest)) ≡ bytes_eq (bytes v) digest
unfolding binary
subject_test v [] d e = absurd (let x = d in cc)
subject_test v (b ∷ bs) d (inl e) = rw e refl
subject_test v (b ∷ bs) d (inr e) = is_text v (bytes v) (b ∷ bs) e

pub subject_shown : {l : Layout} → (old new : State) (repo digest : List ℕ) (r : Answer) → HoldsTables l old.now → is_digest digest ≡ true → IfOk r (λ rows. Shown manifest_subject (Text repo ∷ Text digest ∷ []) old new rows.items)
    → IfOk r (λ rows. rows.items ≡ map (λ r. column r 2 ∷ column r 6 ∷ []) (sort_by by_second (filter (on_subject repo digest) (held l old).manifests)))
subject_shown {l} old new repo digest r h is ran = orders IsManifestRow manifest_subject _ _ _ _ _ (Text repo ∷ Text digest ∷ []) (on_subject repo digest) repo old new r
    h.known.manifests.stored h.tables.manifests.types h.tables.manifests.apart h.known.manifest_texts.subject
    (λ r it. both_tests _ _ _ _ (is_text (column r 1) _ repo it.repo) (subject_test (column r 5) digest is it.subject)) (λ r it. it.digest) (λ r e. (both_true _ _ e).0) ran
