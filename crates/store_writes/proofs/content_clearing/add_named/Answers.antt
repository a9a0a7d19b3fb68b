use Rattle.std.proofs.Common.{◌∙◌}
use Rattle.std.proofs.lemmas.Result.{IfOk-from_err, on_ok_weaker}
use Rattle.std.specs.BTreeSet.{keys}
use Rattle.sqlite.specs.State.{HasCleanDisk}
use Rattle.sqlite.specs.Held.{state}
use Rattle.sqlite.proofs.Callers.{unchanged_then}
use Rattle.store_schema.proofs.Selects.{commit_then, survives_both}
use Rattle.store_statements.specs.Held.{held}
use Rattle.store_statements.proofs.CleanBefore.{was_clean}
use Rattle.store_writes.proofs.ContentNaming.{column_inserted, was_read}
use Rattle.store_writes.proofs.ContentsFreed.{still_ready, named_read}
use Rattle.store_writes.proofs.content_clearing.add_named.Goals as goal

pub returns : goal.returns
returns g c =
    let s0 = state g.S.Store c.args.tx.now.conn.now in
    let s1 = state g.S.Store c.blob_contents.new.tx.conn.now in
    let s2 = state g.S.Store c.manifest_contents.new.tx.conn.now in
    let s3 = state g.S.Store c.piece_contents.new.tx.conn.now in
    let clean-2 : HasCleanDisk s3 → HasCleanDisk s2 = was_clean c.piece_contents.ensures.survives in
    let clean-1 : HasCleanDisk s2 → HasCleanDisk s1 = was_clean c.manifest_contents.ensures.survives in
    record {
      named = λ l clean is.
          let late = clean-2 clean in
          let same-1 = was_read c.blob_contents.result (keys c.args.set.now) (keys c.insert_found.new.set) c.in_ok-insert_found.ensures (c.blob_contents.ensures.same l (clean-1 late) is) in
          let ready-1 = still_ready s0 s1 is same-1 in
          let same-2 = was_read c.manifest_contents.result (keys c.insert_found.new.set) (keys c.insert_found-2.new.set) c.in_ok-insert_found-2.ensures (c.manifest_contents.ensures.same l late ready-1) in
          let ready-2 = still_ready s1 s2 ready-1 same-2 in
          on_ok_weaker c.insert_found-3.result (λ inserted empty.
          named_read l s0 s1 s2 (keys c.args.set.now) (keys c.insert_found.new.set) (keys c.insert_found-2.new.set) (keys c.insert_found-3.new.set) same-1 same-2 empty
          (column_inserted c.blob_contents.result (keys c.args.set.now) (keys c.insert_found.new.set) 4 (held l s0).blobs (c.blob_contents.ensures.found l (clean-1 late) is) c.in_ok-insert_found.ensures)
          (column_inserted c.manifest_contents.result (keys c.insert_found.new.set) (keys c.insert_found-2.new.set) 6 (held l s1).manifests (c.manifest_contents.ensures.found l late ready-1) c.in_ok-insert_found-2.ensures)
          (column_inserted c.piece_contents.result (keys c.insert_found-2.new.set) (keys c.insert_found-3.new.set) 5 (held l s2).pieces (c.piece_contents.ensures.found l clean ready-2) inserted)) c.insert_found-3.ensures;
      same = λ l clean is.
          let late = clean-2 clean in
          let same-1 = was_read c.blob_contents.result (keys c.args.set.now) (keys c.insert_found.new.set) c.in_ok-insert_found.ensures (c.blob_contents.ensures.same l (clean-1 late) is) in
          let ready-1 = still_ready s0 s1 is same-1 in
          let same-2 = was_read c.manifest_contents.result (keys c.insert_found.new.set) (keys c.insert_found-2.new.set) c.in_ok-insert_found-2.ensures (c.manifest_contents.ensures.same l late ready-1) in
          on_ok_weaker c.insert_found-3.result (λ inserted. unchanged_then s0 s2 s3 (unchanged_then s0 s1 s2 same-1 same-2) (was_read c.piece_contents.result (keys c.insert_found-2.new.set) (keys c.insert_found-3.new.set) inserted (c.piece_contents.ensures.same l clean (still_ready s1 s2 ready-1 same-2)))) c.insert_found-3.ensures;
      kept = λ l clean is.
          let late = clean-2 clean in
          let ready-1 = still_ready s0 s1 is (was_read c.blob_contents.result (keys c.args.set.now) (keys c.insert_found.new.set) c.in_ok-insert_found.ensures (c.blob_contents.ensures.same l (clean-1 late) is)) in
          let ready-2 = still_ready s1 s2 ready-1 (was_read c.manifest_contents.result (keys c.insert_found.new.set) (keys c.insert_found-2.new.set) c.in_ok-insert_found-2.ensures (c.manifest_contents.ensures.same l late ready-1)) in
          commit_then s0 s2 s3 (commit_then s0 s1 s2 (c.blob_contents.ensures.kept l (clean-1 late) is) (c.manifest_contents.ensures.kept l late ready-1)) (c.piece_contents.ensures.kept l clean ready-2);
      same_reference = c.piece_contents.ensures.same_reference ∙ c.manifest_contents.ensures.same_reference ∙ c.blob_contents.ensures.same_reference;
      survives = survives_both s0 s2 s3 (survives_both s0 s1 s2 c.blob_contents.ensures.survives c.manifest_contents.ensures.survives) c.piece_contents.ensures.survives;
    }

pub returns-in_err-insert_found : goal.returns-in_err-insert_found
returns-in_err-insert_found g c = record {
  named = λ l clean is. IfOk-from_err c.from_residual.result _ c.from_residual.ensures.0;
  same = λ l clean is. IfOk-from_err c.from_residual.result _ c.from_residual.ensures.0;
  kept = c.blob_contents.ensures.kept;
  same_reference = c.blob_contents.ensures.same_reference;
  survives = c.blob_contents.ensures.survives;
}

pub returns-in_err-insert_found-2 : goal.returns-in_err-insert_found-2
returns-in_err-insert_found-2 g c =
    let s0 = state g.S.Store c.args.tx.now.conn.now in
    let s1 = state g.S.Store c.blob_contents.new.tx.conn.now in
    let s2 = state g.S.Store c.manifest_contents.new.tx.conn.now in
    record {
      named = λ l clean is. IfOk-from_err c.from_residual-in_err-insert_found-2.result _ c.from_residual-in_err-insert_found-2.ensures.0;
      same = λ l clean is. IfOk-from_err c.from_residual-in_err-insert_found-2.result _ c.from_residual-in_err-insert_found-2.ensures.0;
      kept = λ l clean is.
          let clean-1 : HasCleanDisk s1 = was_clean c.manifest_contents.ensures.survives clean in
          commit_then s0 s1 s2 (c.blob_contents.ensures.kept l clean-1 is) (c.manifest_contents.ensures.kept l clean (still_ready s0 s1 is (was_read c.blob_contents.result (keys c.args.set.now) (keys c.insert_found.new.set) c.in_ok-insert_found.ensures (c.blob_contents.ensures.same l clean-1 is))));
      same_reference = c.manifest_contents.ensures.same_reference ∙ c.blob_contents.ensures.same_reference;
      survives = survives_both s0 s1 s2 c.blob_contents.ensures.survives c.manifest_contents.ensures.survives;
    }
