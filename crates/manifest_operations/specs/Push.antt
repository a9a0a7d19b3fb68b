-- The push of a manifest, by the steps in which it is done.
use Rattle.std.specs.Prelude.{List, Bool, not, Option, None, Some, is_some, if◌then◌else◌, Result, Ok, Err, String, string_bytes}
use Rattle.std.specs.declared.alloc.Global.{Global}
use Rattle.std.specs.List.{list_all}
use Rattle.oci_types.specs.Text.{Text}
use Rattle.oci_types.specs.declared.digest.Verdict.{Verdict}
use Rattle.oci_types.specs.declared.digest.Verdict.TheVariants.{Matches, Differs, Unsupported}
use Rattle.oci_types.specs.declared.manifest_fault.ManifestFault.{ManifestFault}
use Rattle.oci_types.specs.Manifest.{ManifestShown, manifest_in}
use Rattle.registry_model.specs.declared.refusal.Refusal.TheVariants.{InvalidDigest, DigestMismatch, InvalidManifest, ManifestBlobUnknown}
use Rattle.registry_model.specs.declared.refusal.Refusal.{Refusal}
use Rattle.registry_model.specs.declared.reply.Status.TheVariants.{Created}
use Rattle.oci_types.specs.declared.fault.Fault.{Fault}
use Rattle.registry_model.specs.Answer.{Answer, refused, bare_answer}
use Rattle.registry_model.specs.Judging.{changed}
use Rattle.registry_model.specs.Keeping.{Kept, WritesBy}
use Rattle.registry_model.specs.World.{Repo, World, repo_at}
use Rattle.registry_model.specs.Lookups.{blob_size_at}
use Rattle.registry_model.specs.Manifests.{has_needs, with_manifest, created_manifest, content_type_fits}
use Rattle.registry_model.specs.Decision.{Decision, refuses, within_quota, in_repo}

-- every needed blob is in the repository of the name
abbrev pub has_needs_at : World → Text → List Text → Bool
has_needs_at w name needs = list_all (λ digest. is_some (blob_size_at w name digest)) needs

-- a manifest whose content type fits, under its digest and a tag, if one is given
abbrev pub keep_manifest : Repo → Text → Text → Option Text → Text → ManifestShown → Decision
keep_manifest r name digest tag body m =
    if not (has_needs r m.needs) then refuses ManifestBlobUnknown
    else within_quota r (with_manifest r digest body tag) (created_manifest name digest m.subject)

-- one that was read, by its content type
abbrev pub push_typed : Repo → Text → Text → Option Text → Option Text → Text → ManifestShown → Decision
push_typed r name digest tag content_type body m =
    if not (content_type_fits content_type m.kind) then refuses InvalidManifest
    else keep_manifest r name digest tag body m

-- the reply of a manifest that was kept and is fetched at the location, or that was refused
abbrev pub kept_answer : Text → Option Text → Result (String Global) Refusal → Answer
kept_answer digest subject (Err e) = refused e
kept_answer digest subject (Ok location) = record (bare_answer Created) {
  location = Some (string_bytes location);
  digest = Some digest;
  subject = subject;
}

-- what comes of it in the repository of the name
abbrev pub Keeps : Result (Result (String Global) Refusal) Fault
    → Text → Text → Option Text → Option Text → Text → ManifestShown → Kept → Kept → Type 0
Keeps result name digest tag content_type body m s s' =
    let decision = in_repo (repo_at s.world name) (λ r. push_typed r name digest tag content_type body m) in
    WritesBy (kept_answer digest m.subject) result decision.reply
    (changed s.world (Some name) decision.change) s s'

-- bytes that match the digest
abbrev pub push_under : Repo → Text → Text → Option Text → Option Text → Text
    → Result ManifestShown ManifestFault → Decision
push_under r name digest tag content_type body (Err e) = refuses InvalidManifest
push_under r name digest tag content_type body (Ok m) = push_typed r name digest tag content_type body m

-- bytes under a digest that was given, by what comparing them with it found
abbrev pub push_checked : Repo → Text → Text → Option Text → Text → Verdict → Decision
push_checked r name digest content_type body Unsupported = refuses InvalidDigest
push_checked r name digest content_type body Differs = refuses DigestMismatch
push_checked r name digest content_type body Matches =
    push_under r name digest None content_type body (manifest_in body)
