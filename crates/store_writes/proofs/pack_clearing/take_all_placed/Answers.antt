use Rattle.std.proofs.Common.{◌∙◌, ◌<◌, length, arith, refl, subst, pos, []}
use Rattle.std.proofs.lemmas.List.{take_all}
use Rattle.sqlite.specs.Held.{state}
use Rattle.store_statements.specs.Held.{held}
use Rattle.store_contents.specs.Layouts.{InPack}
use Rattle.store_writes.specs.Naming.{PlacedGone}
use Rattle.store_writes.proofs.ContentsFreed.{so_far_none, so_far_more}
use Rattle.store_writes.proofs.PlacesFreed.{none_placed_gone, placed_more}
use Rattle.std.proofs.lemmas.Result.{IfOk-from_err}
use Rattle.store_statements.proofs.CleanBefore.{was_clean}
use Rattle.store_schema.proofs.Selects.{commit_then, survives_both}
use Rattle.sqlite.specs.State.{HasCleanDisk}
use Rattle.store_writes.proofs.pack_clearing.take_all_placed.Goals as goal

pub loop-id-init : goal.loop-id-init
loop-id-init g c = record { gone = λ file. so_far_none (InPack file) PlacedGone none_placed_gone (state g.S.Store c.args.tx.now.conn.now); same_reference = refl }

pub loop-id-preserved : goal.loop-id-preserved
loop-id-preserved g c =
    let low : c.loop-id.id-index < length c.args.ids.now = omega arith in
    record {
      gone = λ file.
          so_far_more (InPack file) PlacedGone placed_more (state g.S.Store c.args.tx.now.conn.now) (state g.S.Store c.loop-id.tx.conn.now) (state g.S.Store c.take_placed.new.tx.conn.now) c.args.ids.now c.loop-id.id-index (record { id = pos 0 }) low
          (c.loop-id.invariant.gone file) (c.in_ok-take_placed.ensures.taken file) (c.take_placed.ensures.kept file) c.take_placed.ensures.survives;
      same_reference = c.take_placed.ensures.same_reference ∙ c.loop-id.invariant.same_reference;
    }

pub returns : goal.returns
returns g c = record {
  taken = λ file clean is.
      let it = (c.loop-id.invariant.gone file).gone clean is in
      (it.0, subst (PlacedGone (held (InPack file) (state g.S.Store c.args.tx.now.conn.now)) (held (InPack file) (state g.S.Store c.loop-id.tx.conn.now))) (take_all c.loop-id.id-index c.args.ids.now (omega arith)) it.1);
  kept = λ file clean is. (c.loop-id.invariant.gone file).kept clean is;
  same_reference = c.loop-id.invariant.same_reference;
  survives = (c.loop-id.invariant.gone []).survives;
}

pub returns-in_err-take_placed : goal.returns-in_err-take_placed
returns-in_err-take_placed g c =
    let s0 = state g.S.Store c.args.tx.now.conn.now in
    let s1 = state g.S.Store c.loop-id.tx.conn.now in
    let s2 = state g.S.Store c.take_placed.new.tx.conn.now in
    record {
      taken = λ file clean is. IfOk-from_err c.from_residual.result _ c.from_residual.ensures.0;
      kept = λ file clean is.
          let early : HasCleanDisk s1 = was_clean c.take_placed.ensures.survives clean in
          commit_then s0 s1 s2 ((c.loop-id.invariant.gone file).kept early is) (c.take_placed.ensures.kept file clean ((c.loop-id.invariant.gone file).gone early is).0);
      same_reference = c.take_placed.ensures.same_reference ∙ c.loop-id.invariant.same_reference;
      survives = survives_both s0 s1 s2 (c.loop-id.invariant.gone []).survives c.take_placed.ensures.survives;
    }
