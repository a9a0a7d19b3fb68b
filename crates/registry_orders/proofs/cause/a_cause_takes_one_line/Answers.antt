use Rattle.registry_orders.proofs.CauseLemmas.{one_line}
use Rattle.registry_orders.proofs.cause.a_cause_takes_one_line.Goals as goal

pub returns : goal.returns
returns c = one_line
