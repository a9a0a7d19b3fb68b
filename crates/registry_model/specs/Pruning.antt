-- What a repository is without the blobs that none of its manifests names (profile).
use Rattle.std.specs.Prelude.{Bool, List, [], ◌∷◌, bytes_eq, Result, Ok, Err}
use Rattle.std.specs.List.{list_any}
use Rattle.std.specs.FinMap.{retain_keys, values}
use Rattle.oci_types.specs.Text.{Text}
use Rattle.oci_types.specs.declared.manifest_fault.ManifestFault.{ManifestFault}
use Rattle.oci_types.specs.Manifest.{ManifestShown, manifest_in}
use Rattle.registry_model.specs.World.{Repo, World, repo_at, update_repo}
use Rattle.registry_model.specs.Blobs.{without_blob}

-- an image names its config and its layers, also those that may be had elsewhere; an index names manifests,
-- and no blob
abbrev pub names_of : Result ManifestShown ManifestFault → List Text
names_of (Ok m) = m.names
names_of (Err e) = []

abbrev pub names_in : Text → List Text
names_in bytes = names_of (manifest_in bytes)

abbrev pub is_among : List Text → Text → Bool
is_among digests digest = list_any (λ other. bytes_eq other digest) digests

-- some manifest of the repository names it
abbrev pub is_named : Repo → Text → Bool
is_named r digest = list_any (λ bytes. is_among (names_in bytes) digest) (values r.manifests)

-- the blobs that some manifest names stay
abbrev pub pruned : Repo → Repo
pruned r = record r { blobs = retain_keys r.blobs (is_named r) }

abbrev pub prune : World → Text → World
prune w name = update_repo w name pruned (repo_at w name)

-- ---- several blobs at once

-- one after the other
abbrev pub without_blobs : Repo → List Text → Repo
without_blobs r [] = r
without_blobs r (digest ∷ digests) = without_blobs (without_blob r digest) digests

abbrev pub delete_blobs : World → Text → List Text → World
delete_blobs w name digests = update_repo w name (λ r. without_blobs r digests) (repo_at w name)
