-- What the parts of a copy make of the world that it is made in, from the world that is copied.
use Rattle.std.specs.Prelude.{◌≡◌, ℕ, true, false, List, Option, Some, None}
use Rattle.oci_types.specs.Text.{Text}
use Rattle.registry_model.specs.declared.level.Level.{Level}
use Rattle.registry_model.specs.declared.quota.Usage.{Usage}
use Rattle.registry_model.specs.World.{World, has_repo}
use Rattle.registry_model.specs.Lookups.{blob_at, manifest_bytes_at, tags_at, blob_digests_at, manifest_digests_at, last_number_at, AreLevelsOn, put_blob, put_manifest}
use Rattle.registry_model.specs.Command.{set_repo, grant}
use Rattle.registry_copy.specs.declared.contents.ContentKind.{ContentKind}
use Rattle.registry_copy.specs.declared.contents.ContentKind.TheVariants.{Blob, Manifest}
use Rattle.registry_copy.specs.Restoring.{set_last}
use Rattle.registry_copy.specs.Fit.{IsFitBlob, IsFitManifest}
use Rattle.registry_copy.specs.Steps.{Chain}

-- a blob comes, with the bytes that it has in the world a
abbrev pub BlobComes : World → Text → Text → World → World → Type 0
BlobComes a name digest w w' =
    (bytes : Text) × (blob_at a name digest ≡ Some bytes) × (w' ≡ put_blob w name digest bytes)

-- and a manifest, with a tag or without
abbrev pub ManifestComes : World → Text → Text → Option Text → World → World → Type 0
ManifestComes a name digest tag w w' =
    (bytes : Text) × (manifest_bytes_at a name digest ≡ Some bytes)
    × (w' ≡ put_manifest w name digest bytes tag)

-- of either, without a tag
abbrev pub ContentComes : ContentKind → World → Text → Text → World → World → Type 0
ContentComes Blob a name digest w w' = BlobComes a name digest w w'
ContentComes Manifest a name digest w w' = ManifestComes a name digest None w w'

abbrev pub IsFitContent : ContentKind → World → Text → Text → Type 0
IsFitContent Blob a name digest = IsFitBlob digest (blob_at a name digest)
IsFitContent Manifest a name digest = IsFitManifest digest (manifest_bytes_at a name digest)

abbrev pub digests_of : ContentKind → World → Text → List Text
digests_of Blob a name = blob_digests_at a name
digests_of Manifest a name = manifest_digests_at a name

abbrev pub ContentsCome : ContentKind → World → Text → World → World → Type 0
ContentsCome kind a name = Chain (ContentComes kind a name) (digests_of kind a name)

-- a tag comes, with the manifest that it names
abbrev pub TagComes : World → Text → Text × Text → World → World → Type 0
TagComes a name e = ManifestComes a name e.1 (Some e.0)

abbrev pub TagsCome : World → Text → World → World → Type 0
TagsCome a name = Chain (TagComes a name) (tags_at a name)

-- a token's level on the repository comes
abbrev pub LevelComes : Text → Text × Level → World → World → Type 0
LevelComes name l w w' = w' ≡ grant w l.0 name l.1

-- those of all tokens
pub record LevelsCome (a : World) (name : Text) (w w' : World) : Type 0 where
  pub levels : List (Text × Level)
  pub are : AreLevelsOn a name levels
  pub come : Chain (LevelComes name) levels w w'

-- an empty repository comes that was not there, with this quota
pub record RepoBegins (name : Text) (quota : ℕ) (w w' : World) : Type 0 where
  pub fresh : has_repo w name ≡ false
  pub is : w' ≡ set_repo w name quota

-- what a repository holds comes: blobs, then manifests, then tags
pub record HeldComes (a : World) (name : Text) (w w' : World) : Type 0 where
  pub blobs : World
  pub manifests : World
  pub blobs_come : ContentsCome Blob a name w blobs
  pub manifests_come : ContentsCome Manifest a name blobs manifests
  pub tags_come : TagsCome a name manifests w'

-- a repository comes: an empty one, its last number, what it holds, and the levels on it
pub record RepoComes (a : World) (name : Text) (quota : ℕ) (w w' : World) : Type 0 where
  pub begun : World
  pub held : World
  pub begins : RepoBegins name quota w begun
  pub held_comes : HeldComes a name (set_last begun name (last_number_at a name)) held
  pub levels_come : LevelsCome a name held w'

-- those of which the usages are told
abbrev pub RepoOfUsage : World → Text × Usage → World → World → Type 0
RepoOfUsage a u = RepoComes a u.0 u.1.quota

-- a repository of the name is there already
abbrev pub IsTaken : Text × Usage → World → Type 0
IsTaken u w = has_repo w u.0 ≡ true
