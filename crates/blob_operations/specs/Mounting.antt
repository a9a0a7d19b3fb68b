-- Where a blob is mounted from, as it is looked up.
use Rattle.std.specs.Prelude.{length, Option, Some, None, option_map}
use Rattle.oci_types.specs.Text.{Text}
use Rattle.registry_model.specs.World.{World, repo_at}
use Rattle.registry_model.specs.Mount.{source}
use Rattle.blob_operations.specs.declared.mounting.Source.{Source}

-- the repository of the name and the length of its blob, where the token may read there
abbrev pub source_at : World → Text → Option Text → Text → Option Source
source_at w token None digest = None
source_at w token (Some name) digest =
    option_map (λ bytes. record { name = name; size = length bytes })
    (source (w.grants token) (repo_at w) (Some name) digest)
