-- Blobs: look-up, deletion and whole push (OCI Distribution Specification 1.1, Pulling blobs, Deleting Blobs
-- and Pushing a blob monolithically).
use Rattle.std.specs.Prelude.{ℕ, ◌++◌, Bool, not, ◌&&◌, nat_lt, length, Option, Some, None, is_some, option_map, codes, if◌then◌else◌}
use Rattle.std.specs.FinMap.{get, insert, remove}
use Rattle.oci_types.specs.Text.{Text}
use Rattle.oci_types.specs.Digest.{is_digest, is_verified, matches}
use Rattle.registry_model.specs.declared.refusal.Refusal.TheVariants.{BlobUnknown, InvalidDigest, DigestMismatch, ContentTooLarge}
use Rattle.registry_model.specs.declared.reply.Status.TheVariants.{OK, Created, Accepted}
use Rattle.registry_model.specs.World.{Repo}
use Rattle.registry_model.specs.Limits.{largest_blob}
use Rattle.registry_model.specs.Answer.{Answer, Content, bare_answer, sent, unsent}
use Rattle.registry_model.specs.Decision.{Decision, refuses, tells, makes, within_quota}

-- the blob of a digest; any other text names none
abbrev pub blob_named : Repo → Text → Option Text
blob_named r digest = if is_digest digest then get r.blobs digest else None

-- a blob's bytes, or what HEAD leaves of them (RFC 9110, section 9.3.2)
abbrev pub blob_reply : Text → Content → Answer
blob_reply digest body = record (bare_answer OK) {
  digest = Some digest;
  content_type = Some (codes "application/octet-stream");
  body = body;
}

abbrev pub found_blob : Text → Option Text → Decision
found_blob digest None = refuses BlobUnknown
found_blob digest (Some bytes) = tells (blob_reply digest (sent bytes))

abbrev pub read_blob : Repo → Text → Decision
read_blob r digest = found_blob digest (blob_named r digest)

-- the same for HEAD, which asks for the length alone
abbrev pub found_size : Text → Option ℕ → Decision
found_size digest None = refuses BlobUnknown
found_size digest (Some size) = tells (blob_reply digest (unsent size))

abbrev pub size_blob : Repo → Text → Decision
size_blob r digest = found_size digest (option_map length (blob_named r digest))

-- the blob alone goes; a manifest that names it stays
abbrev pub without_blob : Repo → Text → Repo
without_blob r digest = record r { blobs = remove r.blobs digest }

abbrev pub delete_blob : Repo → Text → Decision
delete_blob r digest =
    if is_some (blob_named r digest) then makes (bare_answer Accepted) (without_blob r digest)
    else refuses BlobUnknown

-- a digest that is there keeps its bytes
abbrev pub with_blob : Repo → Text → Text → Repo
with_blob r digest bytes =
    if is_some (get r.blobs digest) then r else record r { blobs = insert r.blobs digest bytes }

-- where a blob is fetched
abbrev pub blob_location : Text → Text → Text
blob_location name digest = codes "/v2/" ++ name ++ codes "/blobs/" ++ digest

abbrev pub created_blob : Text → Text → Answer
created_blob name digest = record (bare_answer Created) {
  location = Some (blob_location name digest);
  digest = Some digest;
}

-- a digest that bytes can be verified against
abbrev pub can_verify : Text → Bool
can_verify digest = is_digest digest && is_verified digest

-- a push of a whole blob to the repository of the name
abbrev pub push_blob : Repo → Text → Text → Text → Decision
push_blob r name digest body =
    if not (can_verify digest) then refuses InvalidDigest
    else (if nat_lt largest_blob (length body) then refuses ContentTooLarge
    else (if not (matches digest body) then refuses DigestMismatch
    else within_quota r (with_blob r digest body) (created_blob name digest)))
