-- What a copy comes to.
use Rattle.std.specs.Prelude.{◌≡◌, true}
use Rattle.oci_types.specs.Text.{Text}
use Rattle.registry_model.specs.World.{World, no_world, has_repo}
use Rattle.registry_model.specs.Lookups.{repo_count}
use Rattle.registry_model.specs.Usage.{in_64_bits}
use Rattle.registry_model.specs.Keeping.{Kept}
use Rattle.registry_copy.specs.declared.copied.Copied.{Copied}
use Rattle.registry_copy.specs.Closed.{without_uploads, open_uploads, HasLevelsOnRepos}

-- so many repositories, and so many open uploads, or the largest number of 64 bits where they are more
pub record Counts (told : Copied) (w : World) : Type 0 where
  pub repos : told.repos ≡ repo_count w
  pub uploads : told.uploads ≡ in_64_bits (open_uploads w)

-- The copy of the world a that was made in an empty one is a without its open uploads, where a has levels on
-- its repositories alone. What is held beside it stays.
pub record IsCopy (a : World) (told : Copied) (t t' : Kept) : Type 0 where
  pub world : HasLevelsOnRepos a → t.world ≡ no_world → t'.world ≡ without_uploads a
  pub held : t'.held ≡ t.held
  pub counts : Counts told a

-- some repository is there
abbrev pub HasRepos : World → Type 0
HasRepos w = (name : Text) × (has_repo w name ≡ true)
