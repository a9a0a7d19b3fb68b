use Rattle.oci_types.proofs.ReferenceLaw.{no_tag_is_digest}
use Rattle.oci_types.proofs.laws.no_tag_is_a_digest.Goals as goal

pub returns : goal.returns
returns c = no_tag_is_digest
