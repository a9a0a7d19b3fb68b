use Rattle.std.proofs.lemmas.Result.{IfOk-from_err}
use Rattle.registry_orders.proofs.ExitLemmas.{words_failed}
use Rattle.registry_orders.proofs.orders.order_of_name.Goals as goal

pub returns-in_err-name : goal.returns-in_err-name
returns-in_err-name c = record {
  read = IfOk-from_err c.from_residual.result _ c.from_residual.ensures.0;
  refused = words_failed c.from_residual.result _ c.in_err-name.ensures.refused c.from_residual.ensures.1;
}

pub returns-in-drop : goal.returns-in-drop
returns-in-drop c = record { read = (c.in-drop.is, c.in_ok-name.ensures.found); refused = tt }

pub returns-in-sessions : goal.returns-in-sessions
returns-in-sessions c = record { read = (c.in-sessions.is, c.in_ok-name.ensures.found); refused = tt }

pub returns-in_default : goal.returns-in_default
returns-in_default c = record { read = tt; refused = tt }
