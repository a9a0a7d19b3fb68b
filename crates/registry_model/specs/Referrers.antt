-- The manifests that name a subject (OCI Distribution Specification 1.1, Listing Referrers).
use Rattle.std.specs.Prelude.{◌==◌, List, Bool, true, not, length, filter, Option, Some, None, codes, if◌then◌else◌, Result, Ok, Err}
use Rattle.std.specs.List.{filter_map}
use Rattle.std.specs.FinMap.{entries}
use Rattle.oci_types.specs.Text.{Text}
use Rattle.oci_types.specs.Digest.{is_digest}
use Rattle.oci_types.specs.declared.manifest_fault.ManifestFault.{ManifestFault}
use Rattle.oci_types.specs.declared.kind.Kind.TheVariants.{Index}
use Rattle.oci_types.specs.Kind.{media_type_of}
use Rattle.oci_types.specs.Manifest.{ManifestShown, manifest_in}
use Rattle.oci_types.specs.Referrers.{ReferrerShown, referrers_line}
use Rattle.registry_model.specs.declared.refusal.Refusal.TheVariants.{InvalidDigest}
use Rattle.registry_model.specs.declared.reply.Status.TheVariants.{OK}
use Rattle.registry_model.specs.World.{Repo}
use Rattle.registry_model.specs.Answer.{Answer, Content, bare_answer, sent, unsent}
use Rattle.registry_model.specs.Decision.{Decision, refuses, tells}
use Rattle.registry_model.specs.Manifests.{is_text}

-- the subject of a manifest, by what its bytes read as
abbrev pub subject_or_none : Result ManifestShown ManifestFault → Option Text
subject_or_none (Ok m) = m.subject
subject_or_none (Err e) = None

abbrev pub has_subject : Text → Text × Text → Bool
has_subject digest entry = is_text digest (subject_or_none (manifest_in entry.1))

-- the manifests whose subject is the digest, in byte order of their own digests
abbrev pub manifests_on : Repo → Text → List (Text × Text)
manifests_on r digest = filter (has_subject digest) (entries r.manifests)

-- a manifest's descriptor, with its artifact type and its annotations
abbrev pub shown_as : Text × Text → Result ManifestShown ManifestFault → Option ReferrerShown
shown_as entry (Ok m) = Some (record {
  digest = entry.0;
  kind = m.kind;
  size = length entry.1;
  artifact_type = m.artifact_type;
  annotations = m.annotations;
})
shown_as entry (Err e) = None

abbrev pub referrer_in : Text × Text → Option ReferrerShown
referrer_in entry = shown_as entry (manifest_in entry.1)

-- the query's artifact type; an empty one asks for none
abbrev pub filter_in : Option Text → Option Text
filter_in None = None
filter_in (Some t) = if length t == 0 then None else Some t

abbrev pub is_wanted : Option Text → ReferrerShown → Bool
is_wanted None referrer = true
is_wanted (Some wanted) referrer = is_text wanted referrer.artifact_type

abbrev pub referrers_of : Repo → Text → Option Text → List ReferrerShown
referrers_of r digest wanted = filter (is_wanted wanted) (filter_map referrer_in (manifests_on r digest))

-- the filter that was applied is named
abbrev pub filters_named : Option Text → Option Text
filters_named None = None
filters_named (Some wanted) = Some (codes "artifactType")

-- the list of referrers, or what HEAD leaves of it (RFC 9110, section 9.3.2)
abbrev pub referrers_reply : Option Text → Content → Answer
referrers_reply wanted body = record (bare_answer OK) {
  content_type = Some (media_type_of Index);
  filters = filters_named wanted;
  body = body;
}

-- the body that lists the referrers of the artifact type that is asked for
abbrev pub referrers_body : Repo → Text → Option Text → Text
referrers_body r digest wanted = referrers_line (referrers_of r digest wanted)

abbrev pub list_referrers : Repo → Text → Option Text → Decision
list_referrers r digest artifact_type =
    if not (is_digest digest) then refuses InvalidDigest
    else (let wanted = filter_in artifact_type in
    tells (referrers_reply wanted (sent (referrers_body r digest wanted))))

-- the same for HEAD, which asks for the length alone
abbrev pub size_referrers : Repo → Text → Option Text → Decision
size_referrers r digest artifact_type =
    if not (is_digest digest) then refuses InvalidDigest
    else (let wanted = filter_in artifact_type in
    tells (referrers_reply wanted (unsent (length (referrers_body r digest wanted)))))
