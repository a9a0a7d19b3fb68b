use Rattle.oci_types.proofs.ReferenceLaw.{is_reference_decides}
use Rattle.oci_types.proofs.laws.reference_grammar.Goals as goal

pub returns : goal.returns
returns c = is_reference_decides
