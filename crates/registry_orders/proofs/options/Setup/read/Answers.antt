use Rattle.std.proofs.lemmas.Result.{IfOk-from_err}
use Rattle.registry_orders.proofs.ExitLemmas.{words_failed}
use Rattle.registry_orders.proofs.options.Setup.read.Goals as goal

pub returns-in_err-check_names : goal.returns-in_err-check_names
returns-in_err-check_names c = record {
  spells = IfOk-from_err c.from_residual.result _ c.from_residual.ensures.0;
  refused = words_failed c.from_residual.result _ c.in_err-check_names.ensures.refused c.from_residual.ensures.1;
}

pub returns-in_err-repos : goal.returns-in_err-repos
returns-in_err-repos c = record {
  spells = IfOk-from_err c.from_residual-in_err-repos.result _ c.from_residual-in_err-repos.ensures.0;
  refused = words_failed c.from_residual-in_err-repos.result _ c.in_err-repos.ensures.refused c.from_residual-in_err-repos.ensures.1;
}

pub returns-in_err-grants : goal.returns-in_err-grants
returns-in_err-grants c = record {
  spells = IfOk-from_err c.from_residual-in_err-grants.result _ c.from_residual-in_err-grants.ensures.0;
  refused = words_failed c.from_residual-in_err-grants.result _ c.in_err-grants.ensures.refused c.from_residual-in_err-grants.ensures.1;
}

pub returns : goal.returns
returns c = record { spells = (c.in_ok-repos.ensures.read, c.in_ok-grants.ensures.read); refused = tt }
