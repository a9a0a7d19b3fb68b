-- The body of a list of referrers (OCI Distribution Specification 1.1, Content Discovery, Listing Referrers):
-- an image index whose members are the referrers' descriptors, with keys in byte order.
use Rattle.std.specs.Prelude.{ℕ, List, [], ◌∷◌, ◌++◌, map, codes, decimal, string_bytes, Option, Some, None, option_map}
use Rattle.oci_types.specs.Text.{Text}
use Rattle.oci_types.specs.declared.kind.Kind.{Kind}
use Rattle.oci_types.specs.declared.referrers.Referrer.{Referrer}
use Rattle.oci_types.specs.Json.{quoted, with_commas}
use Rattle.oci_types.specs.Kind.{media_type_of}
use Rattle.oci_types.specs.Member.{Pairs, pairs_of}

-- what a list of referrers shows of a manifest
pub record ReferrerShown : Type 0 where
  pub digest : Text
  pub kind : Kind
  pub size : ℕ
  pub artifact_type : Option Text
  pub annotations : Pairs

abbrev pub referrer_shown : Referrer → ReferrerShown
referrer_shown r = record {
  digest = r.digest;
  kind = r.kind;
  size = r.size;
  artifact_type = option_map string_bytes r.artifact_type;
  annotations = pairs_of r.annotations.entries;
}

abbrev pub referrers_shown : List Referrer → List ReferrerShown
referrers_shown rs = map referrer_shown rs

abbrev pub pair_line : Text × Text → Text
pair_line p = quoted p.0 ++ 58 ∷ quoted p.1

-- "annotations":{KEY:TEXT,..}, or nothing where there are none
abbrev pub annotations_line : Pairs → Text
annotations_line [] = []
annotations_line (p ∷ ps) = codes "\"annotations\":{" ++ (with_commas (map pair_line (p ∷ ps)) ++ codes "},")

-- "artifactType":TEXT, or nothing where there is none
abbrev pub artifact_type_line : Option Text → Text
artifact_type_line None = []
artifact_type_line (Some text) = codes "\"artifactType\":" ++ (quoted text ++ codes ",")

-- {"annotations":{..},"artifactType":TEXT,"digest":DIGEST,"mediaType":TYPE,"size":SIZE}
abbrev pub referrer_line : ReferrerShown → Text
referrer_line r =
    codes "{" ++ (annotations_line r.annotations ++ (artifact_type_line r.artifact_type
    ++ (codes "\"digest\":" ++ (quoted r.digest
    ++ (codes ",\"mediaType\":" ++ (quoted (media_type_of r.kind)
    ++ (codes ",\"size\":" ++ (decimal r.size ++ codes "}"))))))))

-- {"manifests":[REFERRER,..],"mediaType":"application/vnd.oci.image.index.v1+json","schemaVersion":2}
abbrev pub referrers_line : List ReferrerShown → Text
referrers_line rs =
    codes "{\"manifests\":[" ++ (with_commas (map referrer_line rs)
    ++ codes "],\"mediaType\":\"application/vnd.oci.image.index.v1+json\",\"schemaVersion\":2}")
