use Rattle.std.proofs.Common.{◌≡◌}
use Rattle.serde_json.specs.View.{items_view}
use Rattle.oci_types.specs.Descriptor.{descriptors_of}
use Rattle.oci_documents.specs.Shown.{descriptors_shown}
use Rattle.oci_documents.proofs.Descriptors.{behind, left_from}
use Rattle.oci_documents.proofs.descriptor.read_descriptors.Given as goal

abbrev pub invariant-loop-value : goal.invariant-loop-value
invariant-loop-value l = descriptors_of (items_view l.values) ≡ behind (descriptors_shown l.found.items) (left_from l.value-index l.values)
