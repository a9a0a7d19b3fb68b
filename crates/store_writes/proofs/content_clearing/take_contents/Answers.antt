use Rattle.std.proofs.Common.{◌∙◌, ◌<◌, length, arith, refl, subst, pos}
use Rattle.std.proofs.lemmas.List.{take_all}
use Rattle.sqlite.specs.Held.{state}
use Rattle.store_statements.specs.Held.{held}
use Rattle.store_contents.specs.Layouts.{InTables}
use Rattle.store_writes.specs.Naming.{ContentsGone}
use Rattle.store_writes.proofs.ContentsFreed.{gone_more, none_gone, so_far_none, so_far_more}
use Rattle.std.proofs.lemmas.Result.{IfOk-from_err}
use Rattle.store_statements.proofs.CleanBefore.{was_clean}
use Rattle.store_schema.proofs.Selects.{commit_then, survives_both}
use Rattle.sqlite.specs.State.{HasCleanDisk}
use Rattle.store_writes.proofs.content_clearing.take_contents.Goals as goal

pub loop-id-init : goal.loop-id-init
loop-id-init g c = record { gone = so_far_none InTables ContentsGone none_gone (state g.S.Store c.args.tx.now.conn.now); same_reference = refl }

pub loop-id-preserved : goal.loop-id-preserved
loop-id-preserved g c =
    let low : c.loop-id.id-index < length c.args.ids.now = omega arith in
    record {
      gone = so_far_more InTables ContentsGone gone_more (state g.S.Store c.args.tx.now.conn.now) (state g.S.Store c.loop-id.tx.conn.now) (state g.S.Store c.take_content.new.tx.conn.now) c.args.ids.now c.loop-id.id-index (record { id = pos 0 }) low c.loop-id.invariant.gone
          c.in_ok-take_content.ensures.taken c.take_content.ensures.kept c.take_content.ensures.survives;
      same_reference = c.take_content.ensures.same_reference ∙ c.loop-id.invariant.same_reference;
    }

pub returns : goal.returns
returns g c = record {
  taken = λ clean is.
      let it = c.loop-id.invariant.gone.gone clean is in
      (it.0, subst (ContentsGone (held InTables (state g.S.Store c.args.tx.now.conn.now)) (held InTables (state g.S.Store c.loop-id.tx.conn.now))) (take_all c.loop-id.id-index c.args.ids.now (omega arith)) it.1);
  kept = λ clean is. c.loop-id.invariant.gone.kept clean is;
  same_reference = c.loop-id.invariant.same_reference;
  survives = c.loop-id.invariant.gone.survives;
}

pub returns-in_err-take_content : goal.returns-in_err-take_content
returns-in_err-take_content g c = record {
  taken = λ clean is. IfOk-from_err c.from_residual.result _ c.from_residual.ensures.0;
  kept = λ clean is.
      let early : HasCleanDisk (state g.S.Store c.loop-id.tx.conn.now) = was_clean c.take_content.ensures.survives clean in
      commit_then (state g.S.Store c.args.tx.now.conn.now) (state g.S.Store c.loop-id.tx.conn.now) (state g.S.Store c.take_content.new.tx.conn.now) (c.loop-id.invariant.gone.kept early is) (c.take_content.ensures.kept clean (c.loop-id.invariant.gone.gone early is).0);
  same_reference = c.take_content.ensures.same_reference ∙ c.loop-id.invariant.same_reference;
  survives = survives_both (state g.S.Store c.args.tx.now.conn.now) (state g.S.Store c.loop-id.tx.conn.now) (state g.S.Store c.take_content.new.tx.conn.now) c.loop-id.invariant.gone.survives c.take_content.ensures.survives;
}
