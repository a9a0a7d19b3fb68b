use Rattle.std.proofs.Common.{◌++◌}
use Rattle.registry_orders.proofs.OutputLemmas.{appends_more, next_text, part_of_next}
use Rattle.registry_orders.proofs.output.write_texts.Goals as goal

pub returns-in-Err-clause-part : goal.returns-in-Err-clause-part
returns-in-Err-clause-part g c =
    let (done, split, appended) = c.loop-text.invariant in
    part_of_next _ _ _ c.args.texts.now c.loop-text.text-index done c.as_bytes.result.now c.loop-text-test.true c.as_bytes.ensures.value split appended c.in-Err.ensures.part

pub loop-text-preserved : goal.loop-text-preserved
loop-text-preserved g c =
    let (done, split, appended) = c.loop-text.invariant in
    let text = c.as_bytes.result.now in
    (done ++ text, next_text c.args.texts.now c.loop-text.text-index done text c.loop-text-test.true c.as_bytes.ensures.value split, appends_more _ _ _ done text appended c.in-Ok.ensures.whole)
