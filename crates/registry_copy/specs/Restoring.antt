-- What restoring adds to the writes of a keeper (profile).
use Rattle.std.specs.Prelude.{ℕ}
use Rattle.oci_types.specs.Text.{Text}
use Rattle.registry_model.specs.World.{World, repo_at, update_repo}

-- the last number that a session of the repository got is this
abbrev pub set_last : World → Text → ℕ → World
set_last w name number = update_repo w name (λ r. record r { last = number }) (repo_at w name)
