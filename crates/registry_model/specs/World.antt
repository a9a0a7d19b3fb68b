-- What a registry holds: repositories that own whole bytes, and grants (profile).
use Rattle.std.specs.Prelude.{ℕ, Bool, Option, Some, None, is_some, nat_lt}
use Rattle.std.specs.declared.cmp.Ordering.{Ordering}
use Rattle.std.specs.Ordering.{nat_cmp}
use Rattle.std.specs.Cmp.Lexicographic.{slice_cmp}
use Rattle.std.specs.FinMap.{FinMap, get, insert, len, empty}
use Rattle.std.specs.Prelude.{if◌then◌else◌, bytes_eq}
use Rattle.oci_types.specs.Text.{Text}
use Rattle.registry_model.specs.declared.level.Level.{Level}

-- by bytes
abbrev pub text_cmp : Text → Text → Ordering
text_cmp = slice_cmp nat_cmp

-- a repository: blobs and manifests by their digests, digests by their tags, the bytes of upload
-- sessions by their numbers, the last number that a session got, and the quota in bytes
pub record Repo : Type 0 where
  pub blobs : FinMap text_cmp Text
  pub manifests : FinMap text_cmp Text
  pub tags : FinMap text_cmp Text
  pub sessions : FinMap nat_cmp Text
  pub last : ℕ
  pub quota : ℕ

-- the levels of one token, by the names of repositories
abbrev pub Grants : Type 0
Grants = FinMap text_cmp Level

-- repositories by their names, and the grants of each token
pub record World : Type 0 where
  pub repos : FinMap text_cmp Repo
  pub grants : Text → Grants

abbrev pub no_world : World
no_world = record { repos = empty; grants = λ token. empty }

-- an empty repository
abbrev pub new_repo : ℕ → Repo
new_repo quota = record {
  blobs = empty;
  manifests = empty;
  tags = empty;
  sessions = empty;
  last = 0;
  quota = quota;
}

-- ---- look-ups

abbrev pub repo_at : World → Text → Option Repo
repo_at w name = get w.repos name

abbrev pub has_repo : World → Text → Bool
has_repo w name = is_some (repo_at w name)

-- a token is known where it has a grant
abbrev pub is_known : Grants → Bool
is_known grants = nat_lt 0 (len grants)

abbrev pub level_at : World → Text → Text → Option Level
level_at w token name = get (w.grants token) name

-- ---- changes

abbrev pub with_repo : World → Text → Repo → World
with_repo w name r = record w { repos = insert w.repos name r }

-- the repository of the name, changed; one that is not there stays so
abbrev pub update_repo : World → Text → (Repo → Repo) → Option Repo → World
update_repo w name change None = w
update_repo w name change (Some r) = with_repo w name (change r)

abbrev pub with_grants : World → Text → Grants → World
with_grants w token grants = record w {
  grants = λ other. if bytes_eq other token then grants else w.grants other;
}
