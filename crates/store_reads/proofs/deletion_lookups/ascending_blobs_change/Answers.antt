use Rattle.std.proofs.Common.{false, arith, refl, subst}
use Rattle.std.specs.Prelude.{IfSome}
use Rattle.std.proofs.lemmas.List.{take_all}
use Rattle.std.proofs.lemmas.Result.{IfOk-from_err}
use Rattle.sqlite.specs.Held.{state}
use Rattle.registry_model.specs.Pruning.{without_blobs}
use Rattle.store_statements.specs.Held.{world_in}
use Rattle.store_statements.proofs.Checks.{survives_here}
use Rattle.store_statements.proofs.Transactions.{survives_all}
use Rattle.store_reads.specs.Usages.{Foretells}
use Rattle.store_reads.proofs.ReadSequences.{stays_here, stays_behind, told_behind, passed_on}
use Rattle.store_reads.proofs.ForetoldDeletions.{none_yet, more_gone}
use Rattle.store_statements.proofs.Crashes.{kept_stayed, kept_then}
use Rattle.store_reads.proofs.CleanBefore.{was_clean}
use Rattle.store_reads.proofs.deletion_lookups.ascending_blobs_change.Goals as goal

pub loop-digest-init : goal.loop-digest-init
loop-digest-init g c = record {
  survives = survives_here (state g.S.Store c.args.conn.now);
  settled = λ l clean is. stays_here (state g.S.Store c.args.conn.now) is;
  told = λ l clean is. none_yet (world_in l (state g.S.Store c.args.conn.now)) c.args.repo.now c.args.digests.now c.requires;
}

pub loop-digest-preserved : goal.loop-digest-preserved
loop-digest-preserved g c =
    let old = state g.S.Store c.args.conn.now in
    let mid = state g.S.Store c.loop-digest.conn in
    let new = state g.S.Store c.blob_size.new.conn in
    record {
      survives = survives_all old mid new _ _ c.loop-digest.invariant.survives c.blob_size.ensures.survives;
      settled = λ l. stays_behind old mid new c.blob_size.ensures.survives (c.loop-digest.invariant.settled l) (λ clean is. c.in_ok-blob_size.ensures.settled l clean is (refl {a = false}));
      told = λ l clean is.
          told_behind old mid new c.blob_size.ensures.survives (c.loop-digest.invariant.settled l) (λ early stays.
          more_gone l old mid c.args.repo.now c.args.digests.now c.loop-digest.digest-index c.digest-item.result c.in_ok-blob_size.field-0 c.loop-digest.change c.with_one_gone-change.result c.requires stays.1 (omega arith) c.digest-item.is
          (c.in_ok-blob_size.ensures.found l clean stays.0) (c.loop-digest.invariant.told l early is) c.with_one_gone-change.ensures) clean is;
    }

pub returns : goal.returns
returns g c = record {
  found = λ l clean is.
      subst (λ ds. IfSome c.loop-digest.change (Foretells (world_in l (state g.S.Store c.args.conn.now)) c.args.repo.now (λ r. without_blobs r ds)))
      (take_all c.loop-digest.digest-index c.args.digests.now (omega arith)) (c.loop-digest.invariant.told l clean is);
  settled = λ l clean is unspent. c.loop-digest.invariant.settled l clean is;
  kept = λ l clean is. kept_stayed g.S.Store g.met.S.Store.settled c.args.conn.now c.loop-digest.conn is (c.loop-digest.invariant.settled l clean is);
  survives = c.loop-digest.invariant.survives;
}

pub returns-in_err-blob_size : goal.returns-in_err-blob_size
returns-in_err-blob_size g c =
    let old = state g.S.Store c.args.conn.now in
    let mid = state g.S.Store c.loop-digest.conn in
    let new = state g.S.Store c.blob_size.new.conn in
    record {
      found = λ l clean is. IfOk-from_err c.from_residual.result _ c.from_residual.ensures.0;
      settled = λ l clean is unspent.
          stays_behind old mid new c.blob_size.ensures.survives (c.loop-digest.invariant.settled l)
          (λ clean is. c.blob_size.ensures.settled l clean is (passed_on c.from_residual.result c.blob_size.result _ c.in_err-blob_size.was c.from_residual.ensures.1 unspent)) clean is;
      kept = λ l clean is.
          let stays = c.loop-digest.invariant.settled l (was_clean mid new c.blob_size.ensures.survives clean) is in
          kept_then old mid new is stays (c.blob_size.ensures.kept l clean stays.0);
      survives = survives_all old mid new _ _ c.loop-digest.invariant.survives c.blob_size.ensures.survives;
    }
