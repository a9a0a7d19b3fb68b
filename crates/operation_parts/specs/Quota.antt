-- When a change that adds bytes to a repository and takes bytes from it goes over the quota (profile).
use Rattle.std.specs.Prelude.{ℕ, ◌+◌, Bool, ◌&&◌, nat_lt, Option, is_some, if◌then◌else◌}
use Rattle.std.specs.Option.{option_map_or}
use Rattle.oci_types.specs.Text.{Text}
use Rattle.registry_model.specs.World.{Repo, World, repo_at}
use Rattle.registry_model.specs.Usage.{used}
use Rattle.registry_model.specs.Lookups.{blob_at, manifest_bytes_at}

-- the repository grows, and then uses more than its quota; by the true sums
abbrev pub grows_over : Repo → ℕ → ℕ → Bool
grows_over r added gone = nat_lt gone added && nat_lt (r.quota + gone) (used r + added)

-- in the repository of the name; one that is not there may hold nothing
abbrev pub grows_over_at : World → Text → ℕ → ℕ → Bool
grows_over_at w name added gone =
    option_map_or (λ r. grows_over r added gone) (repo_at w name) (nat_lt gone added)

-- the bytes that something of the length adds, by what is there
abbrev pub new_length : Option Text → ℕ → ℕ
new_length there length = if is_some there then 0 else length

-- a blob of the length, in the place of so many bytes
abbrev pub blob_grows_over : World → Text → Text → ℕ → ℕ → Bool
blob_grows_over w name digest length gone =
    grows_over_at w name (new_length (blob_at w name digest) length) gone

-- a manifest of the length
abbrev pub manifest_grows_over : World → Text → Text → ℕ → Bool
manifest_grows_over w name digest length =
    grows_over_at w name (new_length (manifest_bytes_at w name digest) length) 0
