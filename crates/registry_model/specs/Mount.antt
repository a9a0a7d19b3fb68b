-- Mounting a blob from another repository (OCI Distribution Specification 1.1, Mounting a blob from another
-- repository; which repositories may be named is the profile's).
use Rattle.std.specs.Prelude.{Bool, not, ◌&&◌, Option, Some, None, is_some, if◌then◌else◌}
use Rattle.std.specs.Option.{option_and_then}
use Rattle.std.specs.FinMap.{get}
use Rattle.oci_types.specs.Text.{Text}
use Rattle.oci_types.specs.Digest.{is_digest}
use Rattle.oci_types.specs.RepoName.{is_repo_name}
use Rattle.registry_model.specs.declared.refusal.Refusal.TheVariants.{InvalidDigest}
use Rattle.registry_model.specs.World.{Repo, Grants}
use Rattle.registry_model.specs.Decision.{Decision, refuses, within_quota}
use Rattle.registry_model.specs.Blobs.{with_blob, created_blob}
use Rattle.registry_model.specs.Sessions.{open_session}

-- the token has a level on the name
abbrev pub may_read : Grants → Text → Bool
may_read grants name = is_repo_name name && is_some (get grants name)

-- the blob in the repository named as the source, where the token may read there
abbrev pub source : Grants → (Text → Option Repo) → Option Text → Text → Option Text
source grants repos None digest = None
source grants repos (Some name) digest =
    if may_read grants name then option_and_then (λ r. get r.blobs digest) (repos name) else None

-- the source's blob becomes the repository's; without one an upload is opened
abbrev pub mounted : Repo → Text → Text → Option Text → Decision
mounted r name digest None = open_session r name
mounted r name digest (Some bytes) = within_quota r (with_blob r digest bytes) (created_blob name digest)

abbrev pub mount_blob : Grants → (Text → Option Repo) → Repo → Text → Text → Option Text → Decision
mount_blob grants repos r name digest from_name =
    if not (is_digest digest) then refuses InvalidDigest
    else mounted r name digest (source grants repos from_name digest)
