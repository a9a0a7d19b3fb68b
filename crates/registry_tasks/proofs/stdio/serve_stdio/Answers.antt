use Rattle.std.proofs.Common.{◌∙◌, ap}
use Rattle.registry_tasks.specs.Failures.{ended_as}
use Rattle.registry_tasks.proofs.stdio.serve_stdio.Goals as goal

pub returns : goal.returns
returns g c =
    let end = c.serve_connection-end in
    record {
      honest = end.ensures.honest;
      serves = λ honest. (end.result, c.ended.ensures.is ∙ ap (ended_as end.result) c.spent.ensures, end.ensures.serves honest);
      fails = c.ended.ensures.fails;
    }
