use Rattle.oci_types.proofs.TokenLaw.{is_token_decides}
use Rattle.oci_types.proofs.laws.token_grammar.Goals as goal

pub returns : goal.returns
returns c = is_token_decides
