use Rattle.oci_documents.proofs.Texts.{in_byte_order}
use Rattle.oci_documents.proofs.laws.annotations_in_order.Goals as goal

pub returns : goal.returns
returns c = in_byte_order c.args.annotations.now.entries c.iter-entries.ensures.ordered
