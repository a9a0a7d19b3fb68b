-- A world whose upload sessions are all closed (profile).
use Rattle.std.specs.Prelude.{◌≡◌, ℕ, true, map, sum_by, Some}
use Rattle.std.specs.FinMap.{entries, from_entries, len}
use Rattle.oci_types.specs.Text.{Text}
use Rattle.registry_model.specs.declared.level.Level.{Level}
use Rattle.registry_model.specs.World.{World, has_repo, level_at}
use Rattle.registry_model.specs.Command.{without_sessions}

-- the world without its open upload sessions: blobs, manifests, tags, quotas, levels and the last number of
-- each repository stay
abbrev pub without_uploads : World → World
without_uploads w = record {
  repos = from_entries (map (λ e. (e.0, without_sessions e.1)) (entries w.repos));
  grants = w.grants;
}

-- how many upload sessions are open
abbrev pub open_uploads : World → ℕ
open_uploads w = sum_by (λ e. len e.1.sessions) (entries w.repos)

-- each level is one on a repository that is there
abbrev pub HasLevelsOnRepos : World → Type 0
HasLevelsOnRepos w =
    (token name : Text) (level : Level) → level_at w token name ≡ Some level → has_repo w name ≡ true
