-- The body of a list of tags (OCI Distribution Specification 1.1, Content Discovery, Listing Tags).
use Rattle.std.specs.Prelude.{List, ◌++◌, map, codes}
use Rattle.serde_json.specs.Data.{Data, string, array, object, no_members, member}
use Rattle.oci_types.specs.Text.{Text}
use Rattle.oci_types.specs.Json.{quoted, with_commas}
use Rattle.oci_types.specs.Member.{text_items}

-- {"name":NAME,"tags":[TAG,..]}
abbrev pub tags_line : Text → List Text → Text
tags_line name tags =
    codes "{\"name\":"
    ++ (quoted name ++ (codes ",\"tags\":[" ++ (with_commas (map quoted tags) ++ codes "]}")))

-- ---- for private clauses: the value that is written

abbrev pub tags_data : Text → List Text → Data
tags_data name tags =
    object (member (codes "name") (string name) (member (codes "tags") (array (text_items tags)) no_members))
