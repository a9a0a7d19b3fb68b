-- The bytes that a repository uses, and when a command goes over its quota (profile).
use Rattle.std.specs.Prelude.{ℕ, ◌+◌, Bool, ◌&&◌, nat_lt, length, sum_by, if◌then◌else◌}
use Rattle.std.specs.FinMap.{values, len}
use Rattle.registry_model.specs.declared.quota.Usage.{Usage}
use Rattle.registry_model.specs.World.{Repo}

-- the lengths of the blobs, of the manifests and of the open sessions, whether or not bytes are shared
abbrev pub used : Repo → ℕ
used r =
    sum_by length (values r.blobs) + sum_by length (values r.manifests) + sum_by length (values r.sessions)

-- more than before, and more than the quota
abbrev pub is_over : ℕ → ℕ → ℕ → Bool
is_over before after quota = nat_lt before after && nat_lt quota after

-- what leads from one repository to the other goes over the quota
abbrev pub goes_over : Repo → Repo → Bool
goes_over old new = is_over (used old) (used new) old.quota

-- the number, or the largest of 64 bits where it is larger
abbrev pub in_64_bits : ℕ → ℕ
in_64_bits n = if nat_lt n 18446744073709551616 then n else 18446744073709551615

-- what a repository holds and may hold
abbrev pub usage_of : Repo → Usage
usage_of r = record {
  used = in_64_bits (used r);
  quota = r.quota;
  blobs = len r.blobs;
  manifests = len r.manifests;
  tags = len r.tags;
  sessions = len r.sessions;
}
