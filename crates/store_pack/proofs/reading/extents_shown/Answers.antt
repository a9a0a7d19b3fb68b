use Rattle.std.proofs.Common.{◌<◌, ◌∙◌, length, arith, map, ap}
use Rattle.std.proofs.lemmas.List.{take_all}
use Rattle.store_statements.proofs.SelectedRows.{mapped_more}
use Rattle.store_places.specs.Places.{runs_at}
use Rattle.store_pack.specs.Reads.{run_shown}
use Rattle.store_pack.proofs.ExtentLemmas.{runs_more}
use Rattle.store_pack.proofs.reading.extents_shown.Goals as goal

pub loop-row-preserved : goal.loop-row-preserved
loop-row-preserved c =
    let low : c.loop-row.row-index < length c.args.rows.now = omega arith in
    mapped_more run_shown c.args.rows.now c.loop-row.row-index c.row-item.result _ (runs_at c.loop-row.extents.items) _ low c.row-item.is c.in_ok-extent.ensures c.loop-row.invariant
    (ap runs_at c.in_ok-push.ensures.items ∙ runs_more c.loop-row.extents.items c.in_ok-extent.extent)

pub returns : goal.returns
returns c = c.loop-row.invariant ∙ ap (map run_shown) (take_all c.loop-row.row-index c.args.rows.now (omega arith))
