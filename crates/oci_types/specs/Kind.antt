-- The two kinds of manifest (OCI Image Specification 1.1, media-types.md).
use Rattle.std.specs.Prelude.{ℕ, codes}
use Rattle.oci_types.specs.Text.{Text}
use Rattle.oci_types.specs.declared.kind.Kind.{Kind}
use Rattle.oci_types.specs.declared.kind.Kind.TheVariants.{Image, Index}

abbrev pub media_type_of : Kind → Text
media_type_of Image = codes "application/vnd.oci.image.manifest.v1+json"
media_type_of Index = codes "application/vnd.oci.image.index.v1+json"

-- the number that stands for a kind (profile)
abbrev pub kind_number : Kind → ℕ
kind_number Image = 1
kind_number Index = 2
