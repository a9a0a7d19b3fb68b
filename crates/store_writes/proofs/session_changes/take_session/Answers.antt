use Rattle.std.proofs.Common.{◌∙◌}
use Rattle.sqlite.specs.State.{HasCleanDisk}
use Rattle.sqlite.specs.Held.{state}
use Rattle.store_schema.proofs.Selects.{commit_then, survives_both}
use Rattle.store_statements.specs.Keys.{of_session}
use Rattle.store_statements.specs.Steps.{pieces_without, uploads_without}
use Rattle.store_writes.proofs.StatementSequences.{becomes_then}
use Rattle.store_statements.proofs.CleanBefore.{was_clean}
use Rattle.store_writes.proofs.session_changes.take_session.Goals as goal

pub returns-in-Ok : goal.returns-in-Ok
returns-in-Ok g c = record {
  taken = λ l clean is.
      let mid : HasCleanDisk (state g.S.Store c.take_pieces_of.new.tx.conn.now) = was_clean c.take_upload.ensures.survives clean in
      let first = c.in-Ok.ensures.taken l mid is in
      becomes_then (pieces_without (of_session c.args.repo.now c.args.number)) (uploads_without (of_session c.args.repo.now c.args.number)) (state g.S.Store c.args.tx.now.conn.now) (state g.S.Store c.take_pieces_of.new.tx.conn.now) (state g.S.Store c.take_upload.new.tx.conn.now)
      c.take_upload.result first (c.take_upload.ensures.taken l clean first.0);
  kept = λ l clean is.
      let mid : HasCleanDisk (state g.S.Store c.take_pieces_of.new.tx.conn.now) = was_clean c.take_upload.ensures.survives clean in
      commit_then (state g.S.Store c.args.tx.now.conn.now) (state g.S.Store c.take_pieces_of.new.tx.conn.now) (state g.S.Store c.take_upload.new.tx.conn.now)
      (c.take_pieces_of.ensures.kept l mid is) (c.take_upload.ensures.kept l clean (c.in-Ok.ensures.taken l mid is).0);
  same_reference = c.take_upload.ensures.same_reference ∙ c.take_pieces_of.ensures.same_reference;
  survives = survives_both (state g.S.Store c.args.tx.now.conn.now) (state g.S.Store c.take_pieces_of.new.tx.conn.now) (state g.S.Store c.take_upload.new.tx.conn.now) c.take_pieces_of.ensures.survives c.take_upload.ensures.survives;
}

pub take_pieces_of-requires : goal.take_pieces_of-requires
take_pieces_of-requires g c = record { fits = c.requires.fits }

pub take_upload-requires : goal.take_upload-requires
take_upload-requires g c = record { fits = c.requires.fits }

pub returns-in-Err : goal.returns-in-Err
returns-in-Err g c = record {
  taken = λ l clean is. tt;
  kept = c.take_pieces_of.ensures.kept;
  same_reference = c.take_pieces_of.ensures.same_reference;
  survives = c.take_pieces_of.ensures.survives;
}
