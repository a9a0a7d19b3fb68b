use Rattle.oci_documents.proofs.Texts.{filled}
use Rattle.oci_documents.proofs.member.is_filled.Goals as goal

pub returns-in-len1-up : goal.returns-in-len1-up
returns-in-len1-up c = filled c.args.items.now c.in-len1-up.len_at_least
