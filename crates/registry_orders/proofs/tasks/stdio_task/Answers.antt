use Rattle.std.proofs.lemmas.Result.{IfOk-from_err}
use Rattle.registry_orders.proofs.ExitLemmas.{words_failed}
use Rattle.registry_orders.proofs.tasks.stdio_task.Goals as goal

pub returns-in_err-settings : goal.returns-in_err-settings
returns-in_err-settings c = record {
  read = IfOk-from_err c.from_residual.result _ c.from_residual.ensures.0;
  refused = words_failed c.from_residual.result _ c.in_err-settings.ensures.refused c.from_residual.ensures.1;
}

pub returns-in_err-layout : goal.returns-in_err-layout
returns-in_err-layout c = record {
  read = IfOk-from_err c.from_residual-in_err-layout.result _ c.from_residual-in_err-layout.ensures.0;
  refused = words_failed c.from_residual-in_err-layout.result _ c.in_err-layout.ensures.refused c.from_residual-in_err-layout.ensures.1;
}

pub returns-in_err-setup : goal.returns-in_err-setup
returns-in_err-setup c = record {
  read = IfOk-from_err c.from_residual-in_err-setup.result _ c.from_residual-in_err-setup.ensures.0;
  refused = words_failed c.from_residual-in_err-setup.result _ c.in_err-setup.ensures.refused c.from_residual-in_err-setup.ensures.1;
}
