-- What the lists of digests show of the links to blobs and to manifests.
use Rattle.std.proofs.Common.{◌≡◌, ℕ, List, [], ◌∷◌, map, IfOk}
use Rattle.std.specs.Prelude.{filter}
use Rattle.sqlite.specs.declared.types.Value.TheVariants.{Text}
use Rattle.sqlite.specs.Order.{column}
use Rattle.sqlite.specs.State.{State, Shown}
use Rattle.sqlite_keyed.specs.Lists.{sort_by}
use Rattle.store_schema.proofs.Selects.{Answer, is_text, one_test}
use Rattle.store_contents.specs.Layouts.{Layout}
use Rattle.store_statements.specs.Keys.{of_first}
use Rattle.store_statements.specs.Tables.{IsBlobRow, IsManifestRow}
use Rattle.store_statements.specs.BlobTexts.{blob_digests}
use Rattle.store_statements.specs.ManifestTexts.{manifest_digests}
use Rattle.store_statements.specs.Held.{HoldsTables, held}
use Rattle.store_statements.specs.ManifestShown.{by_second}
use Rattle.store_statements.proofs.InOrder.{orders}

pub blob_digests_shown : {l : Layout} → (old new : State) (repo : List ℕ) (r : Answer) → HoldsTables l old.now → IfOk r (λ rows. Shown blob_digests (Text repo ∷ []) old new rows.items)
    → IfOk r (λ rows. rows.items ≡ map (λ r. column r 2 ∷ []) (sort_by by_second (filter (of_first repo) (held l old).blobs)))
blob_digests_shown {l} old new repo r h ran = orders IsBlobRow blob_digests _ _ _ _ _ (Text repo ∷ []) (of_first repo) repo old new r
    h.known.blobs.stored h.tables.blobs.types h.tables.blobs.apart h.known.blob_texts.digests
    (λ r it. one_test _ _ (is_text (column r 1) _ repo it.repo)) (λ r it. it.digest) (λ r e. e) ran

pub manifest_digests_shown : {l : Layout} → (old new : State) (repo : List ℕ) (r : Answer) → HoldsTables l old.now → IfOk r (λ rows. Shown manifest_digests (Text repo ∷ []) old new rows.items)
    → IfOk r (λ rows. rows.items ≡ map (λ r. column r 2 ∷ []) (sort_by by_second (filter (of_first repo) (held l old).manifests)))
manifest_digests_shown {l} old new repo r h ran = orders IsManifestRow manifest_digests _ _ _ _ _ (Text repo ∷ []) (of_first repo) repo old new r
    h.known.manifests.stored h.tables.manifests.types h.tables.manifests.apart h.known.manifest_texts.digests
    (λ r it. one_test _ _ (is_text (column r 1) _ repo it.repo)) (λ r it. it.digest) (λ r e. e) ran
