use Rattle.oci_types.proofs.DigestLaw.{is_digest_decides}
use Rattle.oci_types.proofs.laws.digest_grammar.Goals as goal

pub returns : goal.returns
returns c = is_digest_decides
