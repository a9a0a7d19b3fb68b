-- In a fit world each content, tag and repository that is listed is fit.
use Rattle.std.proofs.Common.{◌≡◌, ◌≤◌, [], Option, Some, None, refl, sym, subst}
use Rattle.std.specs.Prelude.{All}
use Rattle.std.specs.Option.{option_and_then, option_map_or}
use Rattle.std.specs.List.{AllByRecursion}
use Rattle.std.specs.FinMap.{FinMap, get, entries, keys}
use Rattle.oci_types.specs.Text.{Text}
use Rattle.registry_model.specs.World.{Repo, World, text_cmp, repo_at}
use Rattle.registry_model.specs.Limits.{largest}
use Rattle.registry_model.specs.Lookups.{manifest_bytes_at, tags_at, usages_of}
use Rattle.registry_copy.specs.declared.contents.ContentKind.{ContentKind}
use Rattle.registry_copy.specs.declared.contents.ContentKind.TheVariants.{Blob, Manifest}
use Rattle.registry_copy.specs.Fit.{IsFitBlob, IsFitManifest, IsFitRepo, IsFitAt, IsFit, IsFitOfUsage}
use Rattle.registry_copy.specs.Parts.{digests_of, IsFitContent}
use Rattle.registry_copy.proofs.KeyLemmas.{a_value, all_of, all_keys, all_mapped, entries_found}
use Rattle.registry_copy.proofs.WorldLemmas.{IsOfRepo, usages_of_repos}

keys_fit : (m : FinMap text_cmp Text) (P : Text → Option Text → Type 0) → ((d bytes : Text) → get m d ≡ Some bytes → P d (Some bytes)) → AllByRecursion (λ d. P d (get m d)) (keys m)
keys_fit m P each =
    all_keys (λ d. P d (get m d)) (entries m)
    (all_mapped (λ (e : Text × Text). get m e.0 ≡ Some e.1) (λ e. P e.0 (get m e.0)) (entries m) (λ e is. subst (P e.0) (sym is) (each e.0 e.1 is)) (entries_found m))

blobs_fit : (o : Option Repo) → ((r : Repo) → o ≡ Some r → IsFitRepo r)
    → AllByRecursion (λ d. IsFitBlob d (option_and_then (λ (r : Repo). get r.blobs d) o)) (option_map_or (λ (r : Repo). keys r.blobs) o [])
blobs_fit None fit = tt
blobs_fit (Some r) fit = keys_fit r.blobs IsFitBlob (fit r refl).blobs

manifests_fit : (o : Option Repo) → ((r : Repo) → o ≡ Some r → IsFitRepo r)
    → AllByRecursion (λ d. IsFitManifest d (option_and_then (λ (r : Repo). get r.manifests d) o)) (option_map_or (λ (r : Repo). keys r.manifests) o [])
manifests_fit None fit = tt
manifests_fit (Some r) fit = keys_fit r.manifests IsFitManifest (fit r refl).manifests

pub contents_fit : (kind : ContentKind) (a : World) (name : Text) → IsFitAt a name → All (IsFitContent kind a name) (digests_of kind a name)
contents_fit Blob a name fit = all_of (IsFitContent Blob a name) (digests_of Blob a name) (blobs_fit (repo_at a name) fit)
contents_fit Manifest a name fit = all_of (IsFitContent Manifest a name) (digests_of Manifest a name) (manifests_fit (repo_at a name) fit)

abbrev IsFitTag : Option Repo → Text × Text → Type 0
IsFitTag o e = IsFitManifest e.1 (option_and_then (λ (r : Repo). get r.manifests e.1) o)

tag_fits : (r : Repo) → IsFitRepo r → (e : Text × Text) → get r.tags e.0 ≡ Some e.1 → IsFitTag (Some r) e
tag_fits r fit e is =
    let there = a_value (get r.manifests e.1) (fit.tags e.0 e.1 is) in
    subst (IsFitManifest e.1) (sym there.1) (fit.manifests e.1 there.0 there.1)

all_tags_fit : (o : Option Repo) → ((r : Repo) → o ≡ Some r → IsFitRepo r) → AllByRecursion (IsFitTag o) (option_map_or (λ (r : Repo). entries r.tags) o [])
all_tags_fit None fit = tt
all_tags_fit (Some r) fit = all_mapped (λ (e : Text × Text). get r.tags e.0 ≡ Some e.1) (IsFitTag (Some r)) (entries r.tags) (tag_fits r (fit r refl)) (entries_found r.tags)

pub tags_fit : (a : World) (name : Text) → IsFitAt a name → All (λ e. IsFitManifest e.1 (manifest_bytes_at a name e.1)) (tags_at a name)
tags_fit a name fit = all_of (IsFitTag (repo_at a name)) (tags_at a name) (all_tags_fit (repo_at a name) fit)

pub usages_fit : (a : World) → IsFit a → All (IsFitOfUsage a) (usages_of a)
usages_fit a fit =
    all_of (IsFitOfUsage a) (usages_of a)
    (all_mapped (IsOfRepo a) (IsFitOfUsage a) (usages_of a)
    (λ u it. (fit u.0, subst (λ n. n ≤ largest) (sym it.2) (fit u.0 it.0 it.1).quota)) (usages_of_repos a))
