-- What is wrong in a world, content by content and tag by tag, as it is looked up (profile).
use Rattle.std.specs.Prelude.{◌≡◌, ◌≢◌, ℕ, ◌==◌, ◌&&◌, ◌++◌, Bool, true, List, [], Option, Some, None, Result, Ok, Err, if◌then◌else◌, length, is_some, IsOk, ⊤}
use Rattle.std.specs.Option.{option_and_then}
use Rattle.std.specs.List.{filter_map, flat_map, cons_option}
use Rattle.std.specs.FinMap.{get}
use Rattle.oci_types.specs.Text.{Text}
use Rattle.oci_types.specs.Digest.{is_verified, matches}
use Rattle.oci_types.specs.declared.fault.Fault.{Fault}
use Rattle.oci_types.specs.declared.fault.Fault.TheVariants.{Memory, Storage}
use Rattle.oci_types.specs.declared.manifest_fault.ManifestFault.{ManifestFault}
use Rattle.oci_types.specs.declared.kind.Kind.{Kind}
use Rattle.oci_types.specs.Manifest.{ManifestShown, manifest_in}
use Rattle.registry_model.specs.World.{Repo, World}
use Rattle.registry_model.specs.Keeping as keeping
use Rattle.registry_model.specs.Lookups.{blob_at, blob_size_at, blob_digests_at, manifest_at, manifest_size_at, manifest_digests_at, tag_at, page_at, usages_of}
use Rattle.registry_checking.specs.declared.looking.Kept.{Kept}
use Rattle.registry_checking.specs.declared.looking.Kept.TheVariants.{Blob, Manifest}
use Rattle.registry_checking.specs.declared.wrong.Wrong.{Wrong}
use Rattle.registry_checking.specs.declared.wrong.Wrong.TheVariants.{Content, Tag}
use Rattle.registry_checking.specs.declared.wrong.Flaw.TheVariants.{OtherBytes, OtherSize, NoManifest}

-- the digest is that of the bytes, by an algorithm by which bytes can be verified
abbrev pub is_of : Text → Text → Bool
is_of digest bytes = is_verified digest && matches digest bytes

-- bytes under a digest, of which a size is told
abbrev pub wrong_bytes : Text → Text → Text → ℕ → Option Wrong
wrong_bytes repo digest bytes size =
    if size == length bytes then (if is_of digest bytes then None else Some (Content repo digest OtherBytes))
    else Some (Content repo digest OtherSize)

-- a blob, by its bytes and its size; nothing where there is none
abbrev pub wrong_blob : Text → Text → Option Text → Option ℕ → Option Wrong
wrong_blob repo digest (Some bytes) (Some size) = wrong_bytes repo digest bytes size
wrong_blob repo digest _ _ = None

-- a manifest's bytes, as they read
abbrev pub wrong_reading : Text → Text → Result ManifestShown ManifestFault → Option Wrong
wrong_reading repo digest (Ok m) = None
wrong_reading repo digest (Err fault) = Some (Content repo digest NoManifest)

abbrev pub first_wrong : Option Wrong → Option Wrong → Option Wrong
first_wrong (Some wrong) other = Some wrong
first_wrong None other = other

-- a manifest, by its bytes and its size
abbrev pub wrong_manifest : Text → Text → Option (Kind × Text) → Option (Kind × ℕ) → Option Wrong
wrong_manifest repo digest (Some kept) (Some sized) =
    first_wrong (wrong_bytes repo digest kept.1 sized.1) (wrong_reading repo digest (manifest_in kept.1))
wrong_manifest repo digest _ _ = None

-- a tag, by the manifest that it names
abbrev pub untied : Text → Text → Option (Kind × ℕ) → Option Wrong
untied repo tag (Some sized) = None
untied repo tag None = Some (Tag repo tag)

-- ---- as they are looked up

abbrev pub wrong_blob_at : World → Text → Text → Option Wrong
wrong_blob_at w repo digest = wrong_blob repo digest (blob_at w repo digest) (blob_size_at w repo digest)

abbrev pub wrong_manifest_at : World → Text → Text → Option Wrong
wrong_manifest_at w repo digest =
    wrong_manifest repo digest (manifest_at w repo digest) (manifest_size_at w repo digest)

-- of either
abbrev pub wrong_at : Kept → World → Text → Text → Option Wrong
wrong_at Blob w repo digest = wrong_blob_at w repo digest
wrong_at Manifest w repo digest = wrong_manifest_at w repo digest

abbrev pub wrong_tag_at : World → Text → Text → Option Wrong
wrong_tag_at w repo tag =
    option_and_then (λ digest. untied repo tag (manifest_size_at w repo digest)) (tag_at w repo tag)

-- the tags of a page without bounds
abbrev pub tags_at : World → Text → List Text
tags_at w repo = (page_at w repo [] None).tags

-- what is wrong in a repository, in byte order of digests and tags
abbrev pub wrong_blobs_at : World → Text → List Wrong
wrong_blobs_at w repo = filter_map (wrong_blob_at w repo) (blob_digests_at w repo)

abbrev pub wrong_manifests_at : World → Text → List Wrong
wrong_manifests_at w repo = filter_map (wrong_manifest_at w repo) (manifest_digests_at w repo)

abbrev pub wrong_tags_at : World → Text → List Wrong
wrong_tags_at w repo = filter_map (wrong_tag_at w repo) (tags_at w repo)

abbrev pub wrongs_at : World → Text → List Wrong
wrongs_at w repo = wrong_blobs_at w repo ++ wrong_manifests_at w repo ++ wrong_tags_at w repo

-- what is wrong in a world, in byte order of the names of repositories
abbrev pub wrongs_of : World → List Wrong
wrongs_of w = flat_map (λ u. wrongs_at w u.0) (usages_of w)

-- ---- what a keeper's reads found

-- what was found was put behind the others, as a keeper's read tells a value
abbrev pub Notes : Result (Unit {0}) Fault → List Wrong → List Wrong → List Wrong
    → keeping.Kept → keeping.Kept → Type 0
Notes (Ok v) found old new s s' = (new ≡ old ++ found) × (s' ≡ s)
Notes (Err Memory) found old new s s' = s' ≡ s
Notes (Err Storage) found old new s s' = ⊤

-- what a read found was put behind the others, or memory for that was wanting, or its fault was passed on
abbrev pub IsNoted : Result (Option Wrong) Fault → Result (Unit {0}) Fault → List Wrong → List Wrong → Type 0
IsNoted (Ok found) (Ok v) old new = new ≡ old ++ cons_option found []
IsNoted (Ok found) (Err fault) old new = fault ≡ Memory
IsNoted (Err e) (Ok v) old new = ⊥
IsNoted (Err e) (Err fault) old new = fault ≡ e

-- ---- what holds where nothing is wrong

-- each digest is that of its bytes, each manifest reads as one, and each tag names one; of the tags, the
-- empty text is none
pub record IsWhole (r : Repo) : Type 0 where
  pub blobs : (digest bytes : Text) → get r.blobs digest ≡ Some bytes → matches digest bytes ≡ true
  pub manifests : (digest bytes : Text) → get r.manifests digest ≡ Some bytes → matches digest bytes ≡ true
  pub reads : (digest bytes : Text) → get r.manifests digest ≡ Some bytes → IsOk (manifest_in bytes)
  pub tags : (tag digest : Text) → tag ≢ [] → get r.tags tag ≡ Some digest
      → is_some (get r.manifests digest) ≡ true
