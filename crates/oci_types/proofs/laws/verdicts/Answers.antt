use Rattle.oci_types.proofs.Verdicts.{verdict_decides, matches-from_verdict}
use Rattle.oci_types.proofs.laws.verdicts.Goals as goal

pub returns-clause-decides : goal.returns-clause-decides
returns-clause-decides c = verdict_decides

pub returns-clause-matches : goal.returns-clause-matches
returns-clause-matches c = matches-from_verdict
