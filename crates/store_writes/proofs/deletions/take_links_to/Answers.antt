use Rattle.std.proofs.Common.{◌∙◌, ◌<◌, length, arith, refl, subst}
use Rattle.std.proofs.lemmas.List.{take_all}
use Rattle.sqlite.specs.Held.{state}
use Rattle.store_statements.specs.Held.{Becomes, held}
use Rattle.store_contents.specs.Layouts.{InTables}
use Rattle.store_writes.specs.Deleting.{without_blob_links}
use Rattle.store_writes.proofs.SeveralBlobs.{so_far_none, so_far_more}
use Rattle.std.proofs.lemmas.Result.{IfOk-from_err}
use Rattle.store_statements.proofs.CleanBefore.{was_clean}
use Rattle.store_schema.proofs.Selects.{commit_then, survives_both}
use Rattle.sqlite.specs.State.{HasCleanDisk}
use Rattle.store_writes.proofs.deletions.take_links_to.Goals as goal

pub loop-digest-init : goal.loop-digest-init
loop-digest-init g c = record { taken = λ l. so_far_none l (state g.S.Store c.args.tx.now.conn.now) c.args.repo.now; same_reference = refl }

pub loop-digest-preserved : goal.loop-digest-preserved
loop-digest-preserved g c =
    let low : c.loop-digest.digest-index < length c.args.digests.now = omega arith in
    record {
      taken = λ l. so_far_more (state g.S.Store c.args.tx.now.conn.now) (state g.S.Store c.loop-digest.tx.conn.now) (state g.S.Store c.take_blob_link.new.tx.conn.now) c.args.repo.now c.args.digests.now c.loop-digest.digest-index _ low (c.loop-digest.invariant.taken l)
          (rw (c.as_str.ensures.text, c.digest-item.is) at (c.in_ok-take_blob_link.ensures.taken l)) (c.take_blob_link.ensures.kept l) c.take_blob_link.ensures.survives;
      same_reference = c.take_blob_link.ensures.same_reference ∙ c.loop-digest.invariant.same_reference;
    }

pub returns : goal.returns
returns g c = record {
  taken = λ l clean is. subst (λ ds. Becomes l (state g.S.Store c.loop-digest.tx.conn.now) (without_blob_links c.args.repo.now ds (held l (state g.S.Store c.args.tx.now.conn.now)))) (take_all c.loop-digest.digest-index c.args.digests.now (omega arith)) ((c.loop-digest.invariant.taken l).taken clean is);
  kept = λ l clean is. (c.loop-digest.invariant.taken l).kept clean is;
  same_reference = c.loop-digest.invariant.same_reference;
  survives = (c.loop-digest.invariant.taken InTables).survives;
}

pub returns-in_err-take_blob_link : goal.returns-in_err-take_blob_link
returns-in_err-take_blob_link g c = record {
  taken = λ l clean is. IfOk-from_err c.from_residual.result _ c.from_residual.ensures.0;
  kept = λ l clean is.
      let early : HasCleanDisk (state g.S.Store c.loop-digest.tx.conn.now) = was_clean c.take_blob_link.ensures.survives clean in
      commit_then (state g.S.Store c.args.tx.now.conn.now) (state g.S.Store c.loop-digest.tx.conn.now) (state g.S.Store c.take_blob_link.new.tx.conn.now) ((c.loop-digest.invariant.taken l).kept early is) (c.take_blob_link.ensures.kept l clean ((c.loop-digest.invariant.taken l).taken early is).0);
  same_reference = c.take_blob_link.ensures.same_reference ∙ c.loop-digest.invariant.same_reference;
  survives = survives_both (state g.S.Store c.args.tx.now.conn.now) (state g.S.Store c.loop-digest.tx.conn.now) (state g.S.Store c.take_blob_link.new.tx.conn.now) (c.loop-digest.invariant.taken InTables).survives c.take_blob_link.ensures.survives;
}
