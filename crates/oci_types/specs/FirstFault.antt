-- The first rule that bytes break, in the words of `Reads`.
use Rattle.std.specs.Prelude.{◌≡◌, ◌<◌, codes, Option, ⊤, ◌⊎◌}
use Rattle.serde_json.specs.Data.{Data, number, unsigned, object, Members}
use Rattle.oci_types.specs.Text.{Text}
use Rattle.oci_types.specs.declared.manifest_fault.ManifestFault.{ManifestFault}
use Rattle.oci_types.specs.declared.manifest_fault.ManifestFault.TheVariants.{NotJson, NotObject, SchemaVersion, Kind, MediaType, Descriptor, Annotations, Subject, ArtifactType, Memory}
use Rattle.oci_types.specs.ManifestFault.{fault_number}
use Rattle.oci_types.specs.Member.{Pairs}
use Rattle.oci_types.specs.Manifest.{BodyShown, body_kind, ContentsShown}
use Rattle.oci_types.specs.Reads.{Has, HasText, HasTexts, HasBody, Holds, HasOwnType, HasSubject, IsJson}

-- the document keeps the rule of this fault; NotJson and Memory have no rule of a document
abbrev pub Keeps : ManifestFault → Data → Type 0
Keeps NotJson d = ⊤
Keeps NotObject d = (ms : Members) × (d ≡ object ms)
Keeps SchemaVersion d = Has d (codes "schemaVersion") (number (unsigned 2))
Keeps Kind d = (body : BodyShown) × HasBody d body
Keeps MediaType d = (body : BodyShown) → HasBody d body → HasOwnType (body_kind body) d
Keeps Descriptor d = (body : BodyShown) → HasBody d body → (contents : ContentsShown) × Holds body contents
Keeps Annotations d = (texts : Pairs) × HasTexts d (codes "annotations") texts
Keeps Subject d = (digest : Option Text) × HasSubject d digest
Keeps ArtifactType d = (text : Option Text) × HasText d (codes "artifactType") text
Keeps Memory d = ⊤

-- the document breaks this rule and keeps each that has a smaller number
pub record FirstFault (d : Data) (fault : ManifestFault) : Type 0 where
  pub before : (earlier : ManifestFault) → fault_number earlier < fault_number fault → Keeps earlier d
  pub breaks : ¬ (Keeps fault d)

-- the bytes are no JSON text, or their document breaks a rule
abbrev pub Refuses : Text → ManifestFault → Type 0
Refuses bytes fault =
    ((fault ≡ NotJson) × ((d : Data) → ¬ (IsJson bytes d)))
    ⊎ ((d : Data) × IsJson bytes d × FirstFault d fault)
