-- The digests that manifests name, as they are looked up.
use Rattle.std.specs.Prelude.{List, [], Bool, false, not, filter}
use Rattle.std.specs.Option.{option_map_or}
use Rattle.std.specs.List.{list_any}
use Rattle.std.specs.BTreeSet.{BTreeSet, contains}
use Rattle.std.specs.FinMap.{keys}
use Rattle.oci_types.specs.Text.{Text}
use Rattle.registry_model.specs.World.{Repo, World, text_cmp, repo_at}
use Rattle.registry_model.specs.Lookups.{manifest_bytes_at}
use Rattle.registry_model.specs.Pruning.{names_in, is_among, is_named}

-- what the manifest of a digest names; nothing where there is none
abbrev pub names_at : World → Text → Text → List Text
names_at w name digest = option_map_or names_in (manifest_bytes_at w name digest) []

-- some manifest of the digests names it
abbrev pub is_named_by : World → Text → List Text → Text → Bool
is_named_by w name manifests digest =
    list_any (λ manifest. is_among (names_at w name manifest) digest) manifests

-- some manifest of the repository of the name names it
abbrev pub is_named_at : World → Text → Text → Bool
is_named_at w name digest = option_map_or (λ r. is_named r digest) (repo_at w name) false

-- the blobs that no manifest of their repository names, in byte order
abbrev pub unnamed_of : Repo → List Text
unnamed_of r = filter (λ digest. not (is_named r digest)) (keys r.blobs)

-- those of the repository of the name; none where it is not there
abbrev pub unnamed_at : World → Text → List Text
unnamed_at w name = option_map_or unnamed_of (repo_at w name) []

-- the set has the digest
abbrev pub has : BTreeSet Text → Text → Bool
has digests digest = contains text_cmp digests digest
