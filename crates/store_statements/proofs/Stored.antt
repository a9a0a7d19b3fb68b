-- Bytes that come into the contents, and the link that names them: one step of the world.
use Rattle.std.proofs.Common.{◌≡◌, ℤ, List, length, true, None, Some, ap, ◌∙◌}
use Rattle.std.specs.Prelude.{find, Option}
use Rattle.sqlite.specs.Order.{Row}
use Rattle.oci_types.specs.Text.{Text}
use Rattle.oci_types.specs.Manifest.{manifest_in}
use Rattle.registry_model.specs.Manifests.{kind_in}
use Rattle.registry_model.specs.Referrers.{subject_or_none}
use Rattle.registry_model.specs.Lookups.{put_blob, put_manifest}
use Rattle.store_statements.specs.Keys.{has_key}
use Rattle.store_statements.specs.Tables.{Tables}
use Rattle.store_statements.specs.World.{world_of}
use Rattle.store_statements.specs.Registry.{is_repo, IsRegistry}
use Rattle.store_statements.specs.Changes.{Comes, Grow, blob_columns, manifest_columns}
use Rattle.store_statements.proofs.ContentWorlds.{contents_grown}
use Rattle.store_statements.proofs.BlobWorlds.{blob_added}
use Rattle.store_statements.proofs.ManifestWorlds.{manifest_added}

pub blob_stored : (t : Tables) (contents : ℤ → Option Text) (places : List Row) (name digest bytes : Text) (id : ℤ) (rows : List Row) → IsRegistry t → is_repo t.repos name ≡ true → Grow t.contents contents → contents id ≡ Some bytes
    → find (has_key name digest) t.blobs ≡ None → Comes t.blobs rows (blob_columns name digest (length bytes) id)
    → let after : Tables = record t { contents = contents; places = places; blobs = rows } in (world_of after ≡ put_blob (world_of t) name digest bytes) × IsRegistry after
blob_stored t contents places name digest bytes id rows is there grow held fresh c =
    let grown = contents_grown t contents places is grow in
    let added = blob_added (record t { contents = contents; places = places }) name digest bytes id rows grown.1 there held fresh c in
    (added.0 ∙ ap (λ w. put_blob w name digest bytes) grown.0, added.1)

pub manifest_stored : (t : Tables) (contents : ℤ → Option Text) (places : List Row) (name digest content : Text) (id : ℤ) (rows : List Row) → IsRegistry t → is_repo t.repos name ≡ true → Grow t.contents contents → contents id ≡ Some content
    → find (has_key name digest) t.manifests ≡ None → Comes t.manifests rows (manifest_columns name digest (length content) (kind_in content) (subject_or_none (manifest_in content)) id)
    → let after : Tables = record t { contents = contents; places = places; manifests = rows } in (world_of after ≡ put_manifest (world_of t) name digest content None) × IsRegistry after
manifest_stored t contents places name digest content id rows is there grow held fresh c =
    let grown = contents_grown t contents places is grow in
    let added = manifest_added (record t { contents = contents; places = places }) name digest content id rows grown.1 there held fresh c in
    (added.0 ∙ ap (λ w. put_manifest w name digest content None) grown.0, added.1)
