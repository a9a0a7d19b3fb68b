use Rattle.oci_types.proofs.TagLaw.{is_tag_decides}
use Rattle.oci_types.proofs.laws.tag_grammar.Goals as goal

pub returns : goal.returns
returns c = is_tag_decides
