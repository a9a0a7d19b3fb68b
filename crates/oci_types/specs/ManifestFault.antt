-- The numbers of the rules, and what is said where one is broken (profile).
use Rattle.std.specs.Prelude.{ℕ, codes}
use Rattle.oci_types.specs.Text.{Text}
use Rattle.oci_types.specs.declared.manifest_fault.ManifestFault.{ManifestFault}
use Rattle.oci_types.specs.declared.manifest_fault.ManifestFault.TheVariants.{NotJson, NotObject, SchemaVersion, Kind, MediaType, Descriptor, Annotations, Subject, ArtifactType, Memory}

abbrev pub fault_number : ManifestFault → ℕ
fault_number NotJson = 1
fault_number NotObject = 2
fault_number SchemaVersion = 3
fault_number Kind = 4
fault_number MediaType = 5
fault_number Descriptor = 6
fault_number Annotations = 7
fault_number Subject = 8
fault_number ArtifactType = 9
fault_number Memory = 10

abbrev pub fault_text : ManifestFault → Text
fault_text NotJson = codes "not a JSON text"
fault_text NotObject = codes "not a JSON object"
fault_text SchemaVersion = codes "the schema version is not 2"
fault_text Kind = codes "neither an image manifest nor an index"
fault_text MediaType = codes "the media type is not that of its kind"
fault_text Descriptor = codes "a malformed descriptor"
fault_text Annotations = codes "malformed annotations"
fault_text Subject = codes "a malformed subject"
fault_text ArtifactType = codes "a malformed artifact type"
fault_text Memory = codes "out of memory"
