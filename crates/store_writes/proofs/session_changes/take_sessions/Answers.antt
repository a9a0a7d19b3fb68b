use Rattle.std.proofs.Common.{◌∙◌}
use Rattle.sqlite.specs.State.{HasCleanDisk}
use Rattle.sqlite.specs.Held.{state}
use Rattle.store_schema.proofs.Selects.{commit_then, survives_both}
use Rattle.store_statements.specs.Keys.{of_first}
use Rattle.store_statements.specs.Steps.{pieces_without, uploads_without}
use Rattle.store_writes.proofs.StatementSequences.{becomes_then}
use Rattle.store_statements.proofs.CleanBefore.{was_clean}
use Rattle.store_writes.proofs.session_changes.take_sessions.Goals as goal

pub returns-in-Ok : goal.returns-in-Ok
returns-in-Ok g c = record {
  taken = λ l clean is.
      let mid : HasCleanDisk (state g.S.Store c.take_pieces.new.tx.conn.now) = was_clean c.take_uploads.ensures.survives clean in
      let first = c.in-Ok.ensures.taken l mid is in
      becomes_then (pieces_without (of_first c.args.repo.now)) (uploads_without (of_first c.args.repo.now)) (state g.S.Store c.args.tx.now.conn.now) (state g.S.Store c.take_pieces.new.tx.conn.now) (state g.S.Store c.take_uploads.new.tx.conn.now)
      c.take_uploads.result first (c.take_uploads.ensures.taken l clean first.0);
  kept = λ l clean is.
      let mid : HasCleanDisk (state g.S.Store c.take_pieces.new.tx.conn.now) = was_clean c.take_uploads.ensures.survives clean in
      commit_then (state g.S.Store c.args.tx.now.conn.now) (state g.S.Store c.take_pieces.new.tx.conn.now) (state g.S.Store c.take_uploads.new.tx.conn.now)
      (c.take_pieces.ensures.kept l mid is) (c.take_uploads.ensures.kept l clean (c.in-Ok.ensures.taken l mid is).0);
  same_reference = c.take_uploads.ensures.same_reference ∙ c.take_pieces.ensures.same_reference;
  survives = survives_both (state g.S.Store c.args.tx.now.conn.now) (state g.S.Store c.take_pieces.new.tx.conn.now) (state g.S.Store c.take_uploads.new.tx.conn.now) c.take_pieces.ensures.survives c.take_uploads.ensures.survives;
}

pub returns-in-Err : goal.returns-in-Err
returns-in-Err g c = record {
  taken = λ l clean is. tt;
  kept = c.take_pieces.ensures.kept;
  same_reference = c.take_pieces.ensures.same_reference;
  survives = c.take_pieces.ensures.survives;
}
