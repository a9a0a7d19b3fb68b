use Rattle.std.proofs.Common.{◌<◌, length, arith, subst}
use Rattle.std.proofs.lemmas.List.{take_all}
use Rattle.std.proofs.lemmas.Result.{IfOk-from_err}
use Rattle.store_migration.specs.Shown.{AllShown}
use Rattle.store_migration.proofs.KeyRows.{one_more}
use Rattle.store_migration.proofs.old_keys.keys_in.Goals as goal

pub loop-row-preserved : goal.loop-row-preserved
loop-row-preserved g c =
    let low : c.loop-row.row-index < length c.args.rows.now = omega arith in
    one_more g.K.FromRow.shows c.args.rows.now c.loop-row.row-index c.row-item.result c.in_ok-key.key c.loop-row.keys.items _ low c.row-item.is c.in_ok-key.ensures c.loop-row.invariant c.in_ok-push.ensures.items

pub returns : goal.returns
returns g c = subst (λ rows. AllShown g.K.FromRow.shows rows c.loop-row.keys.items) (take_all c.loop-row.row-index c.args.rows.now (omega arith)) c.loop-row.invariant

pub returns-in_err-key : goal.returns-in_err-key
returns-in_err-key g c = IfOk-from_err c.from_residual.result _ c.from_residual.ensures.0

pub returns-in_err-push : goal.returns-in_err-push
returns-in_err-push g c = IfOk-from_err c.from_residual-in_err-push.result _ c.from_residual-in_err-push.ensures.0
