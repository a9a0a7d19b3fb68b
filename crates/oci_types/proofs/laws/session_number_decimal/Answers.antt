use Rattle.oci_types.proofs.SessionNumberLaw.{session_number_of_decides}
use Rattle.oci_types.proofs.laws.session_number_decimal.Goals as goal

pub returns : goal.returns
returns c = session_number_of_decides
