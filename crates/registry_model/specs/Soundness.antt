-- What holds of every world that the registry makes (profile).
use Rattle.std.specs.Prelude.{◌≡◌, ℕ, ◌≤◌, true, length, is_some, IsOk, Some}
use Rattle.std.specs.FinMap.{get, len}
use Rattle.oci_types.specs.Text.{Text}
use Rattle.oci_types.specs.Digest.{matches}
use Rattle.oci_types.specs.Manifest.{manifest_in}
use Rattle.registry_model.specs.declared.level.Level.{Level}
use Rattle.registry_model.specs.World.{Repo, World, repo_at, has_repo, level_at}
use Rattle.registry_model.specs.Limits.{largest, largest_blob, most_sessions}
use Rattle.registry_model.specs.Usage.{used}

pub record IsSoundRepo (r : Repo) : Type 0 where
  -- each tag names a manifest
  pub tags : (tag digest : Text) → get r.tags tag ≡ Some digest → is_some (get r.manifests digest) ≡ true
  -- each digest is that of its bytes
  pub blobs : (digest bytes : Text) → get r.blobs digest ≡ Some bytes → matches digest bytes ≡ true
  pub manifests : (digest bytes : Text) → get r.manifests digest ≡ Some bytes → matches digest bytes ≡ true
  -- each manifest reads as one
  pub reads : (digest bytes : Text) → get r.manifests digest ≡ Some bytes → IsOk (manifest_in bytes)
  -- sessions have numbers from 1 to the last, there are at most 1,000, and each has at most 67,108,864 bytes
  pub numbers : (number : ℕ) (bytes : Text) → get r.sessions number ≡ Some bytes
      → (1 ≤ number) × (number ≤ r.last) × (length bytes ≤ largest_blob)
  pub open_sessions : len r.sessions ≤ most_sessions
  pub used_fits : used r ≤ largest
  pub last_fits : r.last ≤ largest
  pub quota_fits : r.quota ≤ largest

-- every repository is sound, and each granted name is a repository
pub record IsSound (w : World) : Type 0 where
  pub repos : (name : Text) (r : Repo) → repo_at w name ≡ Some r → IsSoundRepo r
  pub grants : (token name : Text) (level : Level) → level_at w token name ≡ Some level
      → has_repo w name ≡ true
