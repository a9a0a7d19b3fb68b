-- What a keeper's reads find, and what its writes make, by names. Nothing is found where the repository is
-- not there, and a write to one that is not there makes nothing.
use Rattle.std.specs.Prelude.{◌≡◌, ℕ, T, List, [], ◌∷◌, ◌++◌, map, false, Option, Some, None, length, option_map}
use Rattle.std.specs.Option.{option_and_then, option_map_or}
use Rattle.std.specs.FinMap.{get, len, keys, entries, find, is_sorted}
use Rattle.oci_types.specs.Text.{Text}
use Rattle.oci_types.specs.declared.kind.Kind.{Kind}
use Rattle.registry_model.specs.declared.grant.Grant.{Grant}
use Rattle.registry_model.specs.declared.level.Level.{Level}
use Rattle.registry_model.specs.declared.quota.Usage.{Usage}
use Rattle.registry_model.specs.World.{Repo, World, repo_at, level_at, text_cmp, update_repo}
use Rattle.registry_model.specs.Usage.{usage_of}
use Rattle.registry_model.specs.Blobs.{with_blob, without_blob}
use Rattle.registry_model.specs.Sessions.{opened, appended, finished}
use Rattle.registry_model.specs.Manifests.{with_manifest, without_tag, without_manifest, kind_in}
use Rattle.registry_model.specs.TagPage.{Page, page_behind}
use Rattle.registry_model.specs.Referrers.{manifests_on}

-- ---- reads

abbrev pub blob_at : World → Text → Text → Option Text
blob_at w name digest = option_and_then (λ r. get r.blobs digest) (repo_at w name)

abbrev pub blob_size_at : World → Text → Text → Option ℕ
blob_size_at w name digest = option_map length (blob_at w name digest)

abbrev pub manifest_bytes_at : World → Text → Text → Option Text
manifest_bytes_at w name digest = option_and_then (λ r. get r.manifests digest) (repo_at w name)

-- with the kind as which the bytes read
abbrev pub manifest_at : World → Text → Text → Option (Kind × Text)
manifest_at w name digest = option_map (λ bytes. (kind_in bytes, bytes)) (manifest_bytes_at w name digest)

abbrev pub manifest_size_at : World → Text → Text → Option (Kind × ℕ)
manifest_size_at w name digest =
    option_map (λ bytes. (kind_in bytes, length bytes)) (manifest_bytes_at w name digest)

abbrev pub tag_at : World → Text → Text → Option Text
tag_at w name tag = option_and_then (λ r. get r.tags tag) (repo_at w name)

-- in byte order, each with the digest that it names
abbrev pub tags_at : World → Text → List (Text × Text)
tags_at w name = option_map_or (λ r. entries r.tags) (repo_at w name) []

abbrev pub no_page : Page
no_page = record { tags = []; more = false }

abbrev pub page_at : World → Text → Text → Option ℕ → Page
page_at w name last n = option_map_or (λ r. page_behind r last n) (repo_at w name) no_page

abbrev pub manifests_on_at : World → Text → Text → List (Text × Text)
manifests_on_at w name digest = option_map_or (λ r. manifests_on r digest) (repo_at w name) []

abbrev pub session_at : World → Text → ℕ → Option Text
session_at w name number = option_and_then (λ r. get r.sessions number) (repo_at w name)

abbrev pub session_size_at : World → Text → ℕ → Option ℕ
session_size_at w name number = option_map length (session_at w name number)

abbrev pub sessions_open_at : World → Text → ℕ
sessions_open_at w name = option_map_or (λ r. len r.sessions) (repo_at w name) 0

abbrev pub last_number_at : World → Text → ℕ
last_number_at w name = option_map_or (λ r. r.last) (repo_at w name) 0

abbrev pub no_usage : Usage
no_usage = record { used = 0; quota = 0; blobs = 0; manifests = 0; tags = 0; sessions = 0 }

abbrev pub usage_at : World → Text → Usage
usage_at w name = option_map_or usage_of (repo_at w name) no_usage

-- in byte order
abbrev pub repo_names_of : World → List Text
repo_names_of w = keys w.repos

abbrev pub repo_count : World → ℕ
repo_count w = len w.repos

-- in byte order of names
abbrev pub usages_of : World → List (Text × Usage)
usages_of w = map (λ e. (e.0, usage_of e.1)) (entries w.repos)

-- the digests, in byte order
abbrev pub blob_digests_at : World → Text → List Text
blob_digests_at w name = option_map_or (λ r. keys r.blobs) (repo_at w name) []

abbrev pub manifest_digests_at : World → Text → List Text
manifest_digests_at w name = option_map_or (λ r. keys r.manifests) (repo_at w name) []

-- the tokens that have a level on a repository, each once and in byte order, with that level
pub record AreLevelsOn (w : World) (name : Text) (levels : List (Text × Level)) : Type 0 where
  pub rise : T (is_sorted text_cmp levels)
  pub each : (token : Text) → find text_cmp token levels ≡ level_at w token name

-- levels on one repository
abbrev pub grants_on : Text → List (Text × Level) → List Grant
grants_on name levels = map (λ l. record { repo = name; token = l.0; level = l.1 }) levels

-- the levels that tokens have on each of the repositories, one repository after the other
abbrev pub AreLevelsOver : World → List Text → List Grant → Type 0
AreLevelsOver w [] grants = grants ≡ []
AreLevelsOver w (name ∷ names) grants =
    (levels : List (Text × Level)) × (others : List Grant) × AreLevelsOn w name levels
    × AreLevelsOver w names others × (grants ≡ grants_on name levels ++ others)

-- ---- writes

abbrev pub put_blob : World → Text → Text → Text → World
put_blob w name digest bytes = update_repo w name (λ r. with_blob r digest bytes) (repo_at w name)

abbrev pub open_session : World → Text → World
open_session w name = update_repo w name opened (repo_at w name)

abbrev pub bytes_or_none : Option Text → Text
bytes_or_none None = []
bytes_or_none (Some bytes) = bytes

abbrev pub append : World → Text → ℕ → Text → World
append w name number more =
    update_repo w name (λ r. appended r number (bytes_or_none (get r.sessions number) ++ more))
    (repo_at w name)

abbrev pub finish : World → Text → ℕ → Text → Text → World
finish w name number digest bytes = update_repo w name (λ r. finished r number digest bytes) (repo_at w name)

abbrev pub with_mounted : Text → Option Text → Repo → Repo
with_mounted digest None r = r
with_mounted digest (Some bytes) r = with_blob r digest bytes

-- the bytes that the other repository has
abbrev pub mount : World → Text → Text → Text → World
mount w source name digest =
    update_repo w name (with_mounted digest (blob_at w source digest)) (repo_at w name)

abbrev pub put_manifest : World → Text → Text → Text → Option Text → World
put_manifest w name digest bytes tag =
    update_repo w name (λ r. with_manifest r digest bytes tag) (repo_at w name)

abbrev pub delete_blob : World → Text → Text → World
delete_blob w name digest = update_repo w name (λ r. without_blob r digest) (repo_at w name)

abbrev pub delete_manifest : World → Text → Text → World
delete_manifest w name digest = update_repo w name (λ r. without_manifest r digest) (repo_at w name)

abbrev pub delete_tag : World → Text → Text → World
delete_tag w name tag = update_repo w name (λ r. without_tag r tag) (repo_at w name)
