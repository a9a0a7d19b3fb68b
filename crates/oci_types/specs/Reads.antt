-- What bytes say as a manifest, in the words of the OCI Image Specification 1.1: a relation, and no way of
-- reading. A member that is null counts as absent where it is optional; of equal keys the last counts
-- (profile).
use Rattle.std.specs.Prelude.{◌≡◌, ◌≢◌, ℕ, ◌<◌, ◌^◌, List, [], ◌∷◌, codes, IsUtf8, Bool, true, false, Option, Some, None, ⊤, ◌⊎◌}
use Rattle.serde_json.specs.Data.{Data, null, number, unsigned, string, array, object, Items, no_items, item, Members}
use Rattle.serde_json.specs.Read.{read}
use Rattle.serde_json.specs.Find.{get}
use Rattle.oci_types.specs.Text.{Text}
use Rattle.oci_types.specs.Digest.{is_digest}
use Rattle.oci_types.specs.declared.kind.Kind.{Kind}
use Rattle.oci_types.specs.Kind.{media_type_of}
use Rattle.oci_types.specs.Member.{Pairs, text_items, text_members}
use Rattle.oci_types.specs.Descriptor.{DescriptorShown, digests_of, needed}
use Rattle.oci_types.specs.Manifest.{BodyShown, image, index, body_kind, ContentsShown, ManifestShown}

-- ---- members of an object

-- it is there, with this value
abbrev pub Has : Data → Text → Data → Type 0
Has d key value = get key d ≡ Some value

-- it is absent or null
abbrev pub Lacks : Data → Text → Type 0
Lacks d key = (get key d ≡ None) ⊎ (get key d ≡ Some null)

-- it is a text, or it is absent or null
abbrev pub HasText : Data → Text → Option Text → Type 0
HasText d key None = Lacks d key
HasText d key (Some text) = Has d key (string text)

-- it is an object whose members are these texts; what is absent or null has none
abbrev pub HasTexts : Data → Text → Pairs → Type 0
HasTexts d key texts = Has d key (object (text_members texts)) ⊎ (Lacks d key × (texts ≡ []))

-- it is a list of these texts; what is absent or null has none
abbrev pub HasTextList : Data → Text → List Text → Type 0
HasTextList d key texts = Has d key (array (text_items texts)) ⊎ (Lacks d key × (texts ≡ []))

-- there is at least one
abbrev pub is_filled : List Text → Bool
is_filled [] = false
is_filled (t ∷ ts) = true

-- it is a list of these values; null is the empty list (profile), and what is absent is no list
abbrev pub HasList : Data → Text → Items → Type 0
HasList d key values = Has d key (array values) ⊎ (Has d key null × (values ≡ no_items))

-- ---- descriptors (descriptor.md, Properties)

pub record IsDescriptor (d : Data) (n : DescriptorShown) : Type 0 where
  pub media_type : Has d (codes "mediaType") (string n.media_type)
  pub type_given : n.media_type ≢ []
  pub digest : Has d (codes "digest") (string n.digest)
  pub digest_form : is_digest n.digest ≡ true
  -- a signed 64-bit number that is not negative
  pub size : (s : ℕ) × Has d (codes "size") (number (unsigned s)) × (s < 2 ^ 63)
  pub urls : (us : List Text) × HasTextList d (codes "urls") us × (n.elsewhere ≡ is_filled us)
  pub annotations : (texts : Pairs) × HasTexts d (codes "annotations") texts
  pub inline : (o : Option Text) × HasText d (codes "data") o
  pub artifact_type : (o : Option Text) × HasText d (codes "artifactType") o

-- one after the other
abbrev pub AreDescriptors : Items → List DescriptorShown → Type 0
AreDescriptors no_items [] = ⊤
AreDescriptors no_items (n ∷ ns) = ⊥
AreDescriptors (item d ds) [] = ⊥
AreDescriptors (item d ds) (n ∷ ns) = IsDescriptor d n × AreDescriptors ds ns

-- ---- manifests
-- (manifest.md, Image Manifest Property Descriptions; image-index.md, Image Index Property Descriptions)

-- config and layers, and no manifests; or manifests, and neither config nor layers (profile)
abbrev pub HasBody : Data → BodyShown → Type 0
HasBody d (image config layers) =
    Has d (codes "config") config × (config ≢ null) × HasList d (codes "layers") layers
    × Lacks d (codes "manifests")
HasBody d (index manifests) =
    Lacks d (codes "config") × HasList d (codes "manifests") manifests × Lacks d (codes "layers")

-- its descriptors say this; the digests named, and those needed, are of the config and the layers, and an
-- index has none of either (profile)
abbrev pub Holds : BodyShown → ContentsShown → Type 0
Holds (image config layers) c =
    (first : DescriptorShown) × (others : List DescriptorShown) × IsDescriptor config first
    × AreDescriptors layers others
    × (c.config_type ≡ Some first.media_type) × (c.needs ≡ needed (first ∷ others))
    × (c.names ≡ digests_of (first ∷ others))
Holds (index manifests) c =
    (others : List DescriptorShown) × AreDescriptors manifests others × (c.config_type ≡ None)
    × (c.needs ≡ []) × (c.names ≡ [])

-- when used, it is the kind's media type; an empty one counts as not used (profile)
abbrev pub FitsKind : Kind → Option Text → Type 0
FitsKind k None = ⊤
FitsKind k (Some text) = (text ≡ []) ⊎ (text ≡ media_type_of k)

abbrev pub HasOwnType : Kind → Data → Type 0
HasOwnType k d = (o : Option Text) × HasText d (codes "mediaType") o × FitsKind k o

-- a descriptor of another manifest
abbrev pub HasSubject : Data → Option Text → Type 0
HasSubject d None = Lacks d (codes "subject")
HasSubject d (Some digest) =
    (v : Data) × (n : DescriptorShown) × Has d (codes "subject") v × IsDescriptor v n × (n.digest ≡ digest)

-- the type shown is the manifest's own, or else the config's (OCI Distribution Specification 1.1, Listing
-- Referrers)
abbrev pub ShowsType : Option Text → Option Text → Option Text → Type 0
ShowsType own config_type o =
    ((text : Text) × (own ≡ Some text) × (text ≢ []) × (o ≡ Some text))
    ⊎ (((own ≡ None) ⊎ (own ≡ Some [])) × (o ≡ config_type))

pub record Says (d : Data) (m : ManifestShown) : Type 0 where
  pub is_object : (ms : Members) × (d ≡ object ms)
  pub version : Has d (codes "schemaVersion") (number (unsigned 2))
  pub body : BodyShown
  pub has_body : HasBody d body
  pub kind : m.kind ≡ body_kind body
  pub own_type : HasOwnType (body_kind body) d
  pub contents : ContentsShown
  pub holds : Holds body contents
  pub needs : m.needs ≡ contents.needs
  pub names : m.names ≡ contents.names
  pub annotations : HasTexts d (codes "annotations") m.annotations
  pub subject : HasSubject d m.subject
  pub artifact_type : (own : Option Text) × HasText d (codes "artifactType") own
      × ShowsType own contents.config_type m.artifact_type

-- the UTF-8 text of one JSON value, nesting at most 127 deep
abbrev pub IsJson : Text → Data → Type 0
IsJson bytes d = IsUtf8 bytes × (read bytes ≡ Some d)

pub record ReadsAs (bytes : Text) (m : ManifestShown) : Type 0 where
  pub document : Data
  pub is_json : IsJson bytes document
  pub says : Says document m
