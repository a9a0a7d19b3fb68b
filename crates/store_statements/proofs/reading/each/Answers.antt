use Rattle.std.proofs.Common.{◌<◌, length, arith, ◌∙◌, map, ap}
use Rattle.std.proofs.lemmas.List.{take_all}
use Rattle.std.proofs.lemmas.Result.{IfOk-from_err}
use Rattle.store_statements.proofs.SelectedRows.{mapped_more}
use Rattle.store_statements.proofs.reading.each.Goals as goal

pub loop-row-preserved : goal.loop-row-preserved
loop-row-preserved g c =
    let low : c.loop-row.row-index < length c.args.rows.now = omega arith in
    mapped_more g.T.FromRow.shown c.args.rows.now c.loop-row.row-index c.row-item.result c.in_ok-value.value c.loop-row.values.items _ low c.row-item.is c.in_ok-value.ensures c.loop-row.invariant c.in_ok-push.ensures.items

pub returns : goal.returns
returns g c = c.loop-row.invariant ∙ ap (map g.T.FromRow.shown) (take_all c.loop-row.row-index c.args.rows.now (omega arith))

pub returns-in_err-value : goal.returns-in_err-value
returns-in_err-value g c = IfOk-from_err c.from_residual.result _ c.from_residual.ensures.0
