-- The body of an error reply (OCI Distribution Specification 1.1, Error Codes); it has one error, with no
-- detail (profile).
use Rattle.std.specs.Prelude.{◌++◌, codes}
use Rattle.serde_json.specs.Data.{Data, string, array, object, no_items, item, no_members, member}
use Rattle.oci_types.specs.Text.{Text}
use Rattle.oci_types.specs.Json.{quoted}

-- {"errors":[{"code":CODE,"message":MESSAGE}]}
abbrev pub error_line : Text → Text → Text
error_line code message =
    codes "{\"errors\":[{\"code\":"
    ++ (quoted code ++ (codes ",\"message\":" ++ (quoted message ++ codes "}]}")))

-- ---- for private clauses: the value that is written

abbrev pub error_data : Text → Text → Data
error_data code message =
    object (member (codes "errors") (array (item (object (member (codes "code") (string code)
    (member (codes "message") (string message) no_members))) no_items)) no_members)
