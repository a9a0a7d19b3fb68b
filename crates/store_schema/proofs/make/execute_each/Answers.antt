use Rattle.std.proofs.Common.{◌∙◌, ◌<◌, ℕ, List, Bor, Err, length, arith, refl, subst}
use Rattle.std.proofs.lemmas.List.{take_all}
use Rattle.std.proofs.lemmas.Result.{IfOk-from_err}
use Rattle.sqlite.specs.Held.{state}
use Rattle.store_schema.specs.InTurn.{RanEach, FailedAmong}
use Rattle.store_schema.proofs.Selects.{survives_both}
use Rattle.store_schema.proofs.InTurn.{texts_of, so_far_none, so_far_more, kept_more, failed_more}
use Rattle.store_schema.proofs.Refusals.{if_passed}
use Rattle.store_schema.proofs.make.execute_each.Goals as goal

pub loop-text-init : goal.loop-text-init
loop-text-init g c = record { so_far = so_far_none g.S.Store c.args.tx.now.conn.now c.requires; same_reference = refl }

pub loop-text-preserved : goal.loop-text-preserved
loop-text-preserved g c =
    let low : c.loop-text.text-index < length c.args.texts.now = omega arith in
    record {
      so_far = so_far_more g.S.Store c.args.texts.now c.loop-text.text-index _ low c.args.tx.now.conn.now c.loop-text.tx.conn.now c.execute.new.self.conn.now c.loop-text.invariant.so_far c.execute.ensures.survives
          _ c.in_ok-execute.ensures.runs;
      same_reference = c.execute.ensures.same_reference ∙ c.loop-text.invariant.same_reference;
    }

pub returns : goal.returns
returns g c = record {
  ran = λ clean.
      subst (λ (texts : List (Bor (List ℕ))). RanEach g.S.Store (texts_of texts) c.args.tx.now.conn.now c.loop-text.tx.conn.now) (take_all c.loop-text.text-index c.args.texts.now (omega arith)) (c.loop-text.invariant.so_far.ran clean);
  failed = λ clean. tt;
  inside = c.loop-text.invariant.so_far.inside;
  kept = c.loop-text.invariant.so_far.kept;
  same_reference = c.loop-text.invariant.same_reference;
  survives = c.loop-text.invariant.so_far.survives;
}

pub returns-in_err-execute : goal.returns-in_err-execute
returns-in_err-execute g c =
    let low : c.loop-text.text-index < length c.args.texts.now = omega arith in
    let old = c.args.tx.now.conn.now in
    let mid = c.loop-text.tx.conn.now in
    let new = c.execute.new.self.conn.now in
    record {
      ran = λ clean. IfOk-from_err c.from_residual.result _ c.from_residual.ensures.0;
      failed = λ clean.
          if_passed (FailedAmong g.S.Store (texts_of c.args.texts.now) old new) c.from_residual.result c.in_err-execute.field-0.0 c.from_residual.ensures.1
          (failed_more g.S.Store c.args.texts.now c.loop-text.text-index _ low old mid new c.loop-text.invariant.so_far c.execute.ensures.survives c.in_err-execute.field-0.0 c.in_err-execute.ensures.runs clean);
      inside = λ clean. IfOk-from_err c.from_residual.result _ c.from_residual.ensures.0;
      kept = kept_more g.S.Store c.args.texts.now c.loop-text.text-index _ low old mid new c.loop-text.invariant.so_far c.execute.ensures.survives (Err c.in_err-execute.field-0.0) c.in_err-execute.ensures.runs;
      same_reference = c.execute.ensures.same_reference ∙ c.loop-text.invariant.same_reference;
      survives = survives_both (state g.S.Store old) (state g.S.Store mid) (state g.S.Store new) c.loop-text.invariant.so_far.survives c.execute.ensures.survives;
    }
