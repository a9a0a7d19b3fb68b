use Rattle.std.proofs.lemmas.Result.{IfOk-from_err}
use Rattle.registry_orders.proofs.ExitLemmas.{words_failed}
use Rattle.registry_orders.proofs.orders.read_token_order.Goals as goal

pub returns-in_err-name : goal.returns-in_err-name
returns-in_err-name c = record {
  read = IfOk-from_err c.from_residual.result _ c.from_residual.ensures.0;
  refused = words_failed c.from_residual.result _ c.in_err-name.ensures.refused c.from_residual.ensures.1;
}

pub returns-in_err-level_in-in-grant-Some : goal.returns-in_err-level_in-in-grant-Some
returns-in_err-level_in-in-grant-Some c = record {
  read = IfOk-from_err c.from_residual-in_err-level_in-in-grant-Some.result _ c.from_residual-in_err-level_in-in-grant-Some.ensures.0;
  refused = words_failed c.from_residual-in_err-level_in-in-grant-Some.result _ c.in_err-level_in-in-grant-Some.ensures.refused c.from_residual-in_err-level_in-in-grant-Some.ensures.1;
}

pub returns-in-grants-default : goal.returns-in-grants-default
returns-in-grants-default c = record { read = (c.in-grants-default.is-grants-0, c.in_ok-name.ensures.found, c.shown_in.ensures, c.form_in.ensures); refused = tt }

pub returns-in_default : goal.returns-in_default
returns-in_default c = record { read = tt; refused = tt }

pub returns-in_ok-level_in-in-grant-Some : goal.returns-in_ok-level_in-in-grant-Some
returns-in_ok-level_in-in-grant-Some c = record { read = (c.in-grant-Some.is-grant-0, rw c.in-grant-Some.is-1 at c.in_ok-name.ensures.found, c.in_ok-level_in-in-grant-Some.ensures.found); refused = tt }

pub returns-in-revoke-Some : goal.returns-in-revoke-Some
returns-in-revoke-Some c = record { read = (c.in-revoke-Some.is-revoke-0, rw c.in-revoke-Some.is-1 at c.in_ok-name.ensures.found); refused = tt }

pub returns-in-revoke-None : goal.returns-in-revoke-None
returns-in-revoke-None c = record { read = (c.in-revoke-None.is-revoke-0, rw c.in-revoke-None.is-1 at c.in_ok-name.ensures.found); refused = tt }
