-- The manifest that bytes spell, or the first rule that fails
-- (OCI Image Specification 1.1, manifest.md and image-index.md; where those leave room, the profile).
use Rattle.std.specs.Prelude.{ℕ, ◌==◌, ◌||◌, List, [], ◌∷◌, length, codes, string_bytes, bytes_eq, Bool, true, if◌then◌else◌, Option, Some, None, option_map, option_and_then, Result, Ok, ⊤}
use Rattle.std.specs.Str.{is_utf8}
use Rattle.serde_json.specs.Data.{Data, Items}
use Rattle.serde_json.specs.Read.{read}
use Rattle.serde_json.specs.Find.{get, as_number, as_u64, as_object}
use Rattle.oci_types.specs.Text.{Text}
use Rattle.oci_types.specs.declared.manifest_fault.ManifestFault.{ManifestFault}
use Rattle.oci_types.specs.declared.manifest_fault.ManifestFault.TheVariants as fault
use Rattle.oci_types.specs.declared.kind.Kind.{Kind}
use Rattle.oci_types.specs.declared.kind.Kind.TheVariants as kind
use Rattle.oci_types.specs.declared.manifest.Manifest.{Manifest}
use Rattle.oci_types.specs.Rules.{◌>>=◌, or_fault}
use Rattle.oci_types.specs.Kind.{media_type_of}
use Rattle.oci_types.specs.Member.{Pairs, pairs_of, present_at, if_present, list_at, optional_text_at, texts_at}
use Rattle.oci_types.specs.Descriptor.{DescriptorShown, descriptor_of, descriptors_of, digests_of, needed}

-- UTF-8, and one JSON value that nests at most 127 deep; of equal keys the last counts
abbrev pub document_in : Text → Option Data
document_in bytes = if is_utf8 bytes then read bytes else None

abbrev pub if_two : ℕ → Option ⊤
if_two n = if n == 2 then Some tt else None

-- the whole number 2
abbrev pub version_of : Data → Option ⊤
version_of d =
    option_and_then if_two
    (option_and_then as_u64 (option_and_then as_number (get (codes "schemaVersion") d)))

-- what a manifest names: a config and layers, or other manifests
pub data BodyShown : Type 0 where
  image : Data → Items → BodyShown
  index : Items → BodyShown

abbrev pub body_kind : BodyShown → Kind
body_kind (image config layers) = kind.Image
body_kind (index manifests) = kind.Index

-- unless the other kind's list is there too
abbrev pub unless_present : Option Data → BodyShown → Option BodyShown
unless_present None shown = Some shown
unless_present (Some other) shown = None

abbrev pub body_from : Option Data → Data → Option BodyShown
body_from (Some config) d =
    option_and_then (λ layers. unless_present (present_at (codes "manifests") d) (image config layers))
    (list_at (codes "layers") d)
body_from None d =
    option_and_then (λ manifests. unless_present (present_at (codes "layers") d) (index manifests))
    (list_at (codes "manifests") d)

-- an image manifest has a config, an index has none
abbrev pub body_of : Data → Option BodyShown
body_of d = body_from (present_at (codes "config") d) d

-- absent, empty, or the kind's own
abbrev pub fits_kind : Kind → Option Text → Bool
fits_kind k None = true
fits_kind k (Some text) = length text == 0 || bytes_eq text (media_type_of k)

abbrev pub if_fits : Kind → Option Text → Option ⊤
if_fits k text = if fits_kind k text then Some tt else None

abbrev pub own_type_of : Kind → Data → Option ⊤
own_type_of k d = option_and_then (if_fits k) (optional_text_at (codes "mediaType") d)

pub record ContentsShown : Type 0 where
  pub config_type : Option Text
  pub needs : List Text
  pub names : List Text

abbrev pub image_contents : DescriptorShown → List DescriptorShown → ContentsShown
image_contents config layers = record {
  config_type = Some config.media_type;
  needs = needed (config ∷ layers);
  names = digests_of (config ∷ layers);
}

abbrev pub index_contents : List DescriptorShown → ContentsShown
index_contents manifests = record { config_type = None; needs = []; names = [] }

-- each is a descriptor; an index needs no blob, and names none
abbrev pub contents_of : BodyShown → Option ContentsShown
contents_of (image config layers) =
    option_and_then (λ first. option_map (image_contents first) (descriptors_of layers))
    (descriptor_of config)
contents_of (index manifests) = option_map index_contents (descriptors_of manifests)

abbrev pub subject_of : Data → Option (Option Text)
subject_of d =
    option_map (option_map (λ n. n.digest)) (if_present descriptor_of (present_at (codes "subject") d))

-- the manifest's own type where it is not empty, or else the config's
abbrev pub artifact_type_of : Option Text → Option Text → Option Text
artifact_type_of None config_type = config_type
artifact_type_of (Some text) config_type = if length text == 0 then config_type else Some text

-- what a manifest says
pub record ManifestShown : Type 0 where
  pub kind : Kind
  pub artifact_type : Option Text
  pub needs : List Text
  pub names : List Text
  pub subject : Option Text
  pub annotations : Pairs

abbrev pub shown : Manifest → ManifestShown
shown m = record {
  kind = m.kind;
  artifact_type = option_map string_bytes m.artifact_type;
  needs = m.needs.items;
  names = m.names.items;
  subject = m.subject;
  annotations = pairs_of m.annotations.entries;
}

-- the rules of a document, in their order
unfoldable pub manifest_of : Data → Result ManifestShown ManifestFault
manifest_of d = do
  members ← or_fault fault.NotObject (as_object d)
  version ← or_fault fault.SchemaVersion (version_of d)
  body ← or_fault fault.Kind (body_of d)
  own_type ← or_fault fault.MediaType (own_type_of (body_kind body) d)
  contents ← or_fault fault.Descriptor (contents_of body)
  annotations ← or_fault fault.Annotations (texts_at (codes "annotations") d)
  subject ← or_fault fault.Subject (subject_of d)
  artifact_type ← or_fault fault.ArtifactType (optional_text_at (codes "artifactType") d)
  Ok (record {
    kind = body_kind body;
    artifact_type = artifact_type_of artifact_type contents.config_type;
    needs = contents.needs;
    names = contents.names;
    subject = subject;
    annotations = annotations;
  })

unfoldable pub manifest_in : Text → Result ManifestShown ManifestFault
manifest_in bytes = or_fault fault.NotJson (document_in bytes) >>= manifest_of
