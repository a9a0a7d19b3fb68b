-- The list of referrers, by the steps in which it is made.
use Rattle.std.specs.Prelude.{List, [], ◌∷◌, Bool, true, Option, Some, None, filter, if◌then◌else◌}
use Rattle.std.specs.List.{filter_map}
use Rattle.oci_types.specs.Text.{Text}
use Rattle.oci_types.specs.Referrers.{ReferrerShown, referrers_line}
use Rattle.registry_model.specs.Manifests.{is_text}
use Rattle.registry_model.specs.Referrers.{referrer_in, is_wanted}

-- a filter lets an artifact type through
abbrev pub lets_through : Option Text → Option Text → Bool
lets_through None artifact_type = true
lets_through (Some wanted) artifact_type = is_text wanted artifact_type

-- what one more referrer, if there is one, adds to a list
abbrev pub added_by : Option Text → Option ReferrerShown → List ReferrerShown
added_by wanted None = []
added_by wanted (Some referrer) = if lets_through wanted referrer.artifact_type then referrer ∷ [] else []

-- of manifests the referrers that are wanted; what does not read is none
abbrev pub wanted_of : Option Text → List (Text × Text) → List ReferrerShown
wanted_of wanted entries = filter (is_wanted wanted) (filter_map referrer_in entries)

-- the body that lists them
abbrev pub wanted_line : Option Text → List (Text × Text) → Text
wanted_line wanted entries = referrers_line (wanted_of wanted entries)
