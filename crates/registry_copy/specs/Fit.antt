-- What a registry has to be so that its copy can be made by a keeper's calls: as pushes and commands make it
-- (profile).
use Rattle.std.specs.Prelude.{◌≡◌, ℕ, ◌≤◌, ◌&&◌, Bool, true, nat_le, length, Option, Some, None, is_some, IsOk}
use Rattle.std.specs.FinMap.{get}
use Rattle.oci_types.specs.Text.{Text}
use Rattle.oci_types.specs.Digest.{matches}
use Rattle.oci_types.specs.Manifest.{manifest_in}
use Rattle.registry_model.specs.declared.quota.Usage.{Usage}
use Rattle.registry_model.specs.World.{Repo, World, repo_at}
use Rattle.registry_model.specs.Limits.{largest, largest_blob, largest_manifest}

-- the digest is that of the bytes, which are no more than so many
abbrev pub is_fit : Text → Text → ℕ → Bool
is_fit digest bytes most = nat_le (length bytes) most && matches digest bytes

abbrev pub IsFitBlob : Text → Option Text → Type 0
IsFitBlob digest None = ⊥
IsFitBlob digest (Some bytes) = is_fit digest bytes largest_blob ≡ true

abbrev pub IsFitManifest : Text → Option Text → Type 0
IsFitManifest digest None = ⊥
IsFitManifest digest (Some bytes) =
    (is_fit digest bytes largest_manifest ≡ true) × IsOk (manifest_in bytes)

-- each digest is that of its bytes, each manifest reads as one, each tag names one, and nothing is larger
-- than it may be
pub record IsFitRepo (r : Repo) : Type 0 where
  pub blobs : (digest bytes : Text) → get r.blobs digest ≡ Some bytes → IsFitBlob digest (Some bytes)
  pub manifests : (digest bytes : Text) → get r.manifests digest ≡ Some bytes
      → IsFitManifest digest (Some bytes)
  pub tags : (tag digest : Text) → get r.tags tag ≡ Some digest → is_some (get r.manifests digest) ≡ true
  pub last : r.last ≤ largest
  pub quota : r.quota ≤ largest

-- the repository of the name, where it is there
abbrev pub IsFitAt : World → Text → Type 0
IsFitAt w name = (r : Repo) → repo_at w name ≡ Some r → IsFitRepo r

abbrev pub IsFit : World → Type 0
IsFit w = (name : Text) → IsFitAt w name

-- the repository whose usage is told
abbrev pub IsFitOfUsage : World → Text × Usage → Type 0
IsFitOfUsage w u = IsFitAt w u.0 × (u.1.quota ≤ largest)
