use Rattle.std.proofs.Common.{◌++◌}
use Rattle.std.proofs.lemmas.Result.{on_ok_weaker}
use Rattle.registry_orders.specs.Failures.{text_of}
use Rattle.registry_orders.specs.Outputs.{newline}
use Rattle.registry_orders.specs.Causes.{line_if}
use Rattle.registry_orders.proofs.OutputLemmas.{appends_more, part_before, part_behind}
use Rattle.registry_orders.proofs.cause.tell_at.Goals as goal

pub returns-in-Ok : goal.returns-in-Ok
returns-in-Ok g c =
    let first = text_of c.args.failure ++ newline in
    let second = line_if c.args.place.now c.args.cause in
    record {
      whole = on_ok_weaker c.explain_if.result (λ more. appends_more _ _ _ first second c.in-Ok.ensures.whole more) c.explain_if.ensures.whole;
      part = part_behind _ _ _ first second c.in-Ok.ensures.whole c.explain_if.ensures.part;
    }

pub returns-in-Err-clause-part : goal.returns-in-Err-clause-part
returns-in-Err-clause-part g c = part_before _ _ (text_of c.args.failure ++ newline) (line_if c.args.place.now c.args.cause) c.in-Err.ensures.part
