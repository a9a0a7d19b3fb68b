-- Descriptors (OCI Image Specification 1.1, descriptor.md, Properties).
use Rattle.std.specs.Prelude.{◌==◌, List, [], ◌∷◌, length, map, filter, not, codes, Bool, if◌then◌else◌, Option, Some, None, option_and_then}
use Rattle.serde_json.specs.Data.{Data, Items, no_items, item}
use Rattle.oci_types.specs.Text.{Text}
use Rattle.oci_types.specs.Digest.{is_digest}
use Rattle.oci_types.specs.Part.{◌>>=◌}
use Rattle.oci_types.specs.Member.{text_at, optional_text_at, size_at, some_text_at, texts_at}

-- what is kept of a descriptor
pub record DescriptorShown : Type 0 where
  pub media_type : Text
  pub digest : Text
  -- its content may be had from a URL
  pub elsewhere : Bool

abbrev pub unless_empty : Text → Option Text
unless_empty text = if length text == 0 then None else Some text

abbrev pub digest_in : Text → Option Text
digest_in text = if is_digest text then Some text else None

-- a text that is not empty
abbrev pub type_at : Data → Option Text
type_at d = option_and_then unless_empty (text_at (codes "mediaType") d)

abbrev pub digest_at : Data → Option Text
digest_at d = option_and_then digest_in (text_at (codes "digest") d)

unfoldable pub descriptor_of : Data → Option DescriptorShown
descriptor_of d = do
  media_type ← type_at d
  digest ← digest_at d
  size ← size_at (codes "size") d
  elsewhere ← some_text_at (codes "urls") d
  annotations ← texts_at (codes "annotations") d
  inline ← optional_text_at (codes "data") d
  artifact_type ← optional_text_at (codes "artifactType") d
  Some (record { media_type = media_type; digest = digest; elsewhere = elsewhere })

unfoldable pub descriptors_of : Items → Option (List DescriptorShown)
descriptors_of no_items = Some []
descriptors_of (item d ds) = do
  first ← descriptor_of d
  others ← descriptors_of ds
  Some (first ∷ others)

-- the digests of them all
abbrev pub digests_of : List DescriptorShown → List Text
digests_of ds = map (λ d. d.digest) ds

-- the digests whose content the registry has to hold: not those with URLs (profile)
abbrev pub needed : List DescriptorShown → List Text
needed ds = map (λ d. d.digest) (filter (λ d. not d.elsewhere) ds)
