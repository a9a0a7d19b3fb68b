use Rattle.std.proofs.Common.{IfOk, subst, sym}
use Rattle.clap.specs.Words.{found_of, rows_of}
use Rattle.registry_orders.specs.Tasks.{IsTaskIn}
use Rattle.registry_orders.proofs.tasks.task_of.Goals as goal

pub returns-in-stdio : goal.returns-in-stdio
returns-in-stdio c = record {
  read = subst (λ word. IfOk c.stdio_task.result (IsTaskIn word (rows_of (found_of c.args.matches.now)))) (sym c.in-stdio.is) c.stdio_task.ensures.read;
  refused = c.stdio_task.ensures.refused;
}

pub returns-in-serve : goal.returns-in-serve
returns-in-serve c = record {
  read = subst (λ word. IfOk c.serve_task.result (IsTaskIn word (rows_of (found_of c.args.matches.now)))) (sym c.in-serve.is) c.serve_task.ensures.read;
  refused = c.serve_task.ensures.refused;
}

pub returns-in-stop : goal.returns-in-stop
returns-in-stop c = record {
  read = subst (λ word. IfOk c.stop_task.result (IsTaskIn word (rows_of (found_of c.args.matches.now)))) (sym c.in-stop.is) c.stop_task.ensures.read;
  refused = c.stop_task.ensures.refused;
}

pub returns-in-check : goal.returns-in-check
returns-in-check c = record { read = c.database_task.ensures.read; refused = c.database_task.ensures.refused }

pub returns-in-grant : goal.returns-in-grant
returns-in-grant c = record { read = c.token_task.ensures.read; refused = c.token_task.ensures.refused }

pub returns-in-grants : goal.returns-in-grants
returns-in-grants c = record { read = c.token_task-in-grants.ensures.read; refused = c.token_task-in-grants.ensures.refused }

pub returns-in_default : goal.returns-in_default
returns-in_default c = record { read = c.order_task.ensures.read; refused = c.order_task.ensures.refused }
