use Rattle.std.proofs.Common.{◌∙◌, ap}
use Rattle.std.specs.Prelude.{find}
use Rattle.sqlite.specs.State.{HasCleanDisk}
use Rattle.sqlite.specs.Held.{state}
use Rattle.store_places.specs.Source as source
use Rattle.store_schema.proofs.Selects.{commit_then, survives_both}
use Rattle.store_statements.specs.Keys.{has_key}
use Rattle.store_statements.specs.Steps.{BlobStored}
use Rattle.store_writes.proofs.BytesStored.{after_step}
use Rattle.store_statements.specs.Tables.{Tables}
use Rattle.store_statements.proofs.CleanBefore.{was_clean}
use Rattle.store_writes.proofs.session_finish.end_session.Goals as goal

pub returns-in-Ok : goal.returns-in-Ok
returns-in-Ok g c = record {
  finished = λ l suits clean is fresh.
      let mid = state g.S.Store c.take_session.new.tx.conn.now in
      let new = state g.S.Store c.store_blob.new.tx.conn.now in
      let early : HasCleanDisk mid = was_clean c.store_blob.ensures.survives clean in
      let first = c.in-Ok.ensures.taken l early is in
      after_step l (λ s n. BlobStored s n c.args.repo.now c.args.digest.now (source.text_in l c.args.source) (source.runs_in c.args.source)) _ mid new c.store_blob.result first.1
      (c.store_blob.ensures.stored l suits clean first.0 (ap (λ (t : Tables). find (has_key c.args.repo.now c.args.digest.now) t.blobs) first.1 ∙ fresh));
  kept = λ l suits clean is.
      let mid = state g.S.Store c.take_session.new.tx.conn.now in
      let early : HasCleanDisk mid = was_clean c.store_blob.ensures.survives clean in
      commit_then (state g.S.Store c.args.tx.now.conn.now) mid (state g.S.Store c.store_blob.new.tx.conn.now) (c.take_session.ensures.kept l early is) (c.store_blob.ensures.kept l suits clean (c.in-Ok.ensures.taken l early is).0);
  same_reference = c.store_blob.ensures.same_reference ∙ c.take_session.ensures.same_reference;
  survives = survives_both (state g.S.Store c.args.tx.now.conn.now) (state g.S.Store c.take_session.new.tx.conn.now) (state g.S.Store c.store_blob.new.tx.conn.now) c.take_session.ensures.survives c.store_blob.ensures.survives;
}

pub take_session-requires : goal.take_session-requires
take_session-requires g c = record { fits = c.requires.number_fits }

pub store_blob-requires : goal.store_blob-requires
store_blob-requires g c = record { right = c.requires.right; fits = c.requires.fits; matching = c.requires.matching }

pub returns-in-Err : goal.returns-in-Err
returns-in-Err g c = record {
  finished = λ l suits clean is fresh. tt;
  kept = λ l suits. c.take_session.ensures.kept l;
  same_reference = c.take_session.ensures.same_reference;
  survives = c.take_session.ensures.survives;
}
