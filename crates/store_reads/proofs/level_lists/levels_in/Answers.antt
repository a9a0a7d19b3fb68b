use Rattle.std.proofs.Common.{◌<◌, ◌∙◌, length, map, ap, arith}
use Rattle.std.proofs.lemmas.List.{take_all}
use Rattle.std.proofs.lemmas.Result.{IfOk-from_err}
use Rattle.store_reads.specs.LevelLists.{token_level_shown}
use Rattle.store_statements.proofs.SelectedRows.{mapped_more}
use Rattle.store_reads.proofs.level_lists.levels_in.Goals as goal

pub loop-row-init : goal.loop-row-init
loop-row-init c = c.new-levels.ensures.items

pub loop-row-preserved : goal.loop-row-preserved
loop-row-preserved c =
    let low : c.loop-row.row-index < length c.args.rows.now = omega arith in
    mapped_more token_level_shown c.args.rows.now c.loop-row.row-index c.row-item.result c.in_ok-level.level c.loop-row.levels.items _ low c.row-item.is c.in_ok-level.ensures c.loop-row.invariant c.in-Ok.ensures.items

pub returns : goal.returns
returns c = c.loop-row.invariant ∙ ap (map token_level_shown) (take_all c.loop-row.row-index c.args.rows.now (omega arith))

pub returns-in_err-level : goal.returns-in_err-level
returns-in_err-level c = IfOk-from_err c.from_residual.result _ c.from_residual.ensures.0

pub returns-in_default : goal.returns-in_default
returns-in_default c = tt
