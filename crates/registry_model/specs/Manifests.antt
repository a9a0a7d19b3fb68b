-- Manifests by tag and by digest (OCI Distribution Specification 1.1, Pulling manifests, Pushing Manifests,
-- Pushing Manifests with Subject, Deleting tags and Deleting Manifests; the order of refusals is the
-- profile's).
use Rattle.std.specs.Prelude.{ℕ, ◌==◌, ◌-◌, List, ◌++◌, Bool, true, false, not, ◌||◌, nat_lt, length, take, drop, Option, Some, None, is_some, option_map, codes, bytes_eq, if◌then◌else◌, Result, Ok, Err}
use Rattle.std.specs.Option.{option_and_then}
use Rattle.std.specs.List.{before_first, list_all, prefix_len, suffix_len}
use Rattle.std.specs.Str.{str_eq_ignore_ascii_case}
use Rattle.std.specs.FinMap.{get, insert, remove, retain_keys}
use Rattle.oci_types.specs.Text.{Text}
use Rattle.oci_types.specs.Digest.{is_digest, is_verified, matches, sha256_digest}
use Rattle.oci_types.specs.Tag.{is_tag}
use Rattle.oci_types.specs.Reference.{is_reference}
use Rattle.oci_types.specs.declared.manifest_fault.ManifestFault.{ManifestFault}
use Rattle.oci_types.specs.declared.kind.Kind.{Kind}
use Rattle.oci_types.specs.declared.kind.Kind.TheVariants.{Image}
use Rattle.oci_types.specs.Kind.{media_type_of}
use Rattle.oci_types.specs.Manifest.{ManifestShown, manifest_in}
use Rattle.registry_model.specs.declared.refusal.Refusal.TheVariants.{ManifestUnknown, InvalidReference, ContentTooLarge, InvalidDigest, DigestMismatch, InvalidManifest, ManifestBlobUnknown}
use Rattle.registry_model.specs.declared.reply.Status.TheVariants.{OK, Created, Accepted}
use Rattle.registry_model.specs.World.{Repo}
use Rattle.registry_model.specs.Limits.{largest_manifest}
use Rattle.registry_model.specs.Answer.{Answer, Content, bare_answer, sent, unsent}
use Rattle.registry_model.specs.Decision.{Decision, refuses, tells, makes, within_quota}

-- ---- look-up

-- a tag names what it was set to, a digest itself, and any other text nothing
abbrev pub reference_digest : Repo → Text → Option Text
reference_digest r reference =
    if is_tag reference then get r.tags reference else (if is_digest reference then Some reference else None)

pub record Found : Type 0 where
  pub digest : Text
  pub bytes : Text

abbrev pub manifest_of_digest : Repo → Text → Option Found
manifest_of_digest r digest =
    option_map (λ bytes. record { digest = digest; bytes = bytes }) (get r.manifests digest)

abbrev pub manifest_named : Repo → Text → Option Found
manifest_named r reference = option_and_then (manifest_of_digest r) (reference_digest r reference)

-- the kind of a manifest, by what its bytes read as
abbrev pub kind_or_image : Result ManifestShown ManifestFault → Kind
kind_or_image (Ok m) = m.kind
kind_or_image (Err e) = Image

abbrev pub kind_in : Text → Kind
kind_in bytes = kind_or_image (manifest_in bytes)

-- a manifest's bytes, or what HEAD leaves of them
abbrev pub manifest_reply : Text → Kind → Content → Answer
manifest_reply digest kind body = record (bare_answer OK) {
  digest = Some digest;
  content_type = Some (media_type_of kind);
  body = body;
}

abbrev pub found_manifest : Option Found → Decision
found_manifest None = refuses ManifestUnknown
found_manifest (Some m) = tells (manifest_reply m.digest (kind_in m.bytes) (sent m.bytes))

abbrev pub read_manifest : Repo → Text → Decision
read_manifest r reference = found_manifest (manifest_named r reference)

abbrev pub found_manifest_size : Option Found → Decision
found_manifest_size None = refuses ManifestUnknown
found_manifest_size (Some m) = tells (manifest_reply m.digest (kind_in m.bytes) (unsent (length m.bytes)))

-- HEAD
abbrev pub size_manifest : Repo → Text → Decision
size_manifest r reference = found_manifest_size (manifest_named r reference)

-- ---- deletion

abbrev pub is_text : Text → Option Text → Bool
is_text t None = false
is_text t (Some other) = bytes_eq other t

-- the tag alone
abbrev pub without_tag : Repo → Text → Repo
without_tag r tag = record r { tags = remove r.tags tag }

-- the manifest, and each tag that names it
abbrev pub without_manifest : Repo → Text → Repo
without_manifest r digest = record r {
  manifests = remove r.manifests digest;
  tags = retain_keys r.tags (λ tag. not (is_text digest (get r.tags tag)));
}

abbrev pub delete_tag : Repo → Text → Decision
delete_tag r tag =
    if is_some (get r.tags tag) then makes (bare_answer Accepted) (without_tag r tag)
    else refuses ManifestUnknown

abbrev pub delete_digest : Repo → Text → Decision
delete_digest r digest =
    if is_some (get r.manifests digest) then makes (bare_answer Accepted) (without_manifest r digest)
    else refuses ManifestUnknown

abbrev pub delete_manifest : Repo → Text → Decision
delete_manifest r reference =
    if is_tag reference then delete_tag r reference
    else (if is_digest reference then delete_digest r reference else refuses ManifestUnknown)

-- ---- push

abbrev pub is_blank : ℕ → Bool
is_blank b = b == 32 || b == 9

-- without spaces and tabs at its ends
abbrev pub without_blanks : Text → Text
without_blanks t = let u = drop (prefix_len is_blank t) t in take (length u - suffix_len is_blank u) u

abbrev pub is_semicolon : ℕ → Bool
is_semicolon b = b == 59

-- absent, empty, or the kind's media type, in any case and with any parameters (RFC 9110, section 8.3)
abbrev pub content_type_fits : Option Text → Kind → Bool
content_type_fits None kind = true
content_type_fits (Some value) kind =
    length value == 0
    || str_eq_ignore_ascii_case (without_blanks (before_first is_semicolon value)) (media_type_of kind)

-- a manifest is kept under the digest by which it was pushed; one pushed by tag under its sha256 (profile)
abbrev pub pushed_digest : Text → Text → Text
pushed_digest reference body = if is_tag reference then sha256_digest body else reference

abbrev pub pushed_tag : Text → Option Text
pushed_tag reference = if is_tag reference then Some reference else None

-- a digest that is there keeps its bytes
abbrev pub with_bytes : Repo → Text → Text → Repo
with_bytes r digest bytes =
    if is_some (get r.manifests digest) then r else record r { manifests = insert r.manifests digest bytes }

abbrev pub with_tag : Repo → Option Text → Text → Repo
with_tag r None digest = r
with_tag r (Some tag) digest = record r { tags = insert r.tags tag digest }

abbrev pub with_manifest : Repo → Text → Text → Option Text → Repo
with_manifest r digest bytes tag = with_tag (with_bytes r digest bytes) tag digest

-- where a manifest is fetched
abbrev pub manifest_location : Text → Text → Text
manifest_location name digest = codes "/v2/" ++ name ++ codes "/manifests/" ++ digest

abbrev pub created_manifest : Text → Text → Option Text → Answer
created_manifest name digest subject = record (bare_answer Created) {
  location = Some (manifest_location name digest);
  digest = Some digest;
  subject = subject;
}

-- every needed blob is in the repository
abbrev pub has_needs : Repo → List Text → Bool
has_needs r needs = list_all (λ digest. is_some (get r.blobs digest)) needs

abbrev pub push_read : Repo → Text → Text → Option Text → Text → Result ManifestShown ManifestFault → Decision
push_read r name reference content_type body (Err e) = refuses InvalidManifest
push_read r name reference content_type body (Ok m) =
    if not (content_type_fits content_type m.kind) then refuses InvalidManifest
    else (if not (has_needs r m.needs) then refuses ManifestBlobUnknown
    else within_quota r (with_manifest r (pushed_digest reference body) body (pushed_tag reference))
    (created_manifest name (pushed_digest reference body) m.subject))

abbrev pub push_manifest : Repo → Text → Text → Option Text → Text → Decision
push_manifest r name reference content_type body =
    if not (is_reference reference) then refuses InvalidReference
    else (if nat_lt largest_manifest (length body) then refuses ContentTooLarge
    else (if not (is_tag reference || is_verified reference) then refuses InvalidDigest
    else (if not (is_tag reference || matches reference body) then refuses DigestMismatch
    else push_read r name reference content_type body (manifest_in body))))
