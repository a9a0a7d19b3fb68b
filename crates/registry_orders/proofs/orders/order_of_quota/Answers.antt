use Rattle.std.proofs.lemmas.Result.{IfOk-from_err}
use Rattle.registry_orders.proofs.ExitLemmas.{words_failed}
use Rattle.registry_orders.proofs.orders.order_of_quota.Goals as goal

pub returns-in_err-name : goal.returns-in_err-name
returns-in_err-name c = record {
  read = IfOk-from_err c.from_residual.result _ c.from_residual.ensures.0;
  refused = words_failed c.from_residual.result _ c.in_err-name.ensures.refused c.from_residual.ensures.1;
}

pub returns-in_err-quota : goal.returns-in_err-quota
returns-in_err-quota c = record {
  read = IfOk-from_err c.from_residual-in_err-quota.result _ c.from_residual-in_err-quota.ensures.0;
  refused = words_failed c.from_residual-in_err-quota.result _ c.in_err-quota.ensures.refused c.from_residual-in_err-quota.ensures.1;
}

pub returns-in-repo : goal.returns-in-repo
returns-in-repo c = record { read = (c.in-repo.is, c.in_ok-name.ensures.found, c.in_ok-quota.ensures.found); refused = tt }

pub returns-in-quota : goal.returns-in-quota
returns-in-quota c = record { read = (c.in-quota.is, c.in_ok-name.ensures.found, c.in_ok-quota.ensures.found); refused = tt }

pub returns-in_default : goal.returns-in_default
returns-in_default c = record { read = tt; refused = tt }
