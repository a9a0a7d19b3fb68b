use Rattle.std.proofs.lemmas.Result.{IfOk-from_err}
use Rattle.registry_orders.proofs.ExitLemmas.{words_failed}
use Rattle.registry_orders.proofs.tasks.serve_task.Goals as goal

pub returns-in_err-connections : goal.returns-in_err-connections
returns-in_err-connections c = record {
  read = IfOk-from_err c.from_residual.result _ c.from_residual.ensures.0;
  refused = words_failed c.from_residual.result _ c.in_err-connections.ensures.refused c.from_residual.ensures.1;
}

pub returns-in_err-limits : goal.returns-in_err-limits
returns-in_err-limits c = record {
  read = IfOk-from_err c.from_residual-in_err-limits.result _ c.from_residual-in_err-limits.ensures.0;
  refused = words_failed c.from_residual-in_err-limits.result _ c.in_err-limits.ensures.refused c.from_residual-in_err-limits.ensures.1;
}

pub returns-in_err-settings : goal.returns-in_err-settings
returns-in_err-settings c = record {
  read = IfOk-from_err c.from_residual-in_err-settings.result _ c.from_residual-in_err-settings.ensures.0;
  refused = words_failed c.from_residual-in_err-settings.result _ c.in_err-settings.ensures.refused c.from_residual-in_err-settings.ensures.1;
}

pub returns-in_err-layout : goal.returns-in_err-layout
returns-in_err-layout c = record {
  read = IfOk-from_err c.from_residual-in_err-layout.result _ c.from_residual-in_err-layout.ensures.0;
  refused = words_failed c.from_residual-in_err-layout.result _ c.in_err-layout.ensures.refused c.from_residual-in_err-layout.ensures.1;
}

pub returns-in_err-served : goal.returns-in_err-served
returns-in_err-served c = record {
  read = IfOk-from_err c.from_residual-in_err-served.result _ c.from_residual-in_err-served.ensures.0;
  refused = words_failed c.from_residual-in_err-served.result _ c.in_err-served.ensures.refused c.from_residual-in_err-served.ensures.1;
}
