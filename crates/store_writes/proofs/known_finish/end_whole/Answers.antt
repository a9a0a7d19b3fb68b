use Rattle.std.proofs.Common.{◌∙◌, ap}
use Rattle.std.specs.Prelude.{find}
use Rattle.sqlite.specs.State.{HasCleanDisk}
use Rattle.sqlite.specs.Held.{state}
use Rattle.store_schema.proofs.Selects.{commit_then, survives_both}
use Rattle.store_statements.specs.Keys.{has_key}
use Rattle.store_statements.specs.Tables.{Tables}
use Rattle.store_statements.specs.Held.{held}
use Rattle.store_writes.proofs.KnownEnds.{ended_if}
use Rattle.store_statements.proofs.CleanBefore.{was_clean}
use Rattle.store_writes.proofs.known_finish.end_whole.Goals as goal

pub returns-in-Ok : goal.returns-in-Ok
returns-in-Ok g c = record {
  ended = λ l clean is fresh.
      let mid = state g.S.Store c.take_session.new.tx.conn.now in
      let new = state g.S.Store c.add_blob_link.new.tx.conn.now in
      let early : HasCleanDisk mid = was_clean c.add_blob_link.ensures.survives clean in
      let first = c.in-Ok.ensures.taken l early is in
      ended_if l (held l (state g.S.Store c.args.tx.now.conn.now)) mid new c.args.repo.now c.args.number c.args.digest.now c.args.link c.add_blob_link.result first.1
      (c.add_blob_link.ensures.added l clean first.0 (ap (λ (t : Tables). find (has_key c.args.repo.now c.args.digest.now) t.blobs) first.1 ∙ fresh));
  kept = λ l clean is.
      let mid = state g.S.Store c.take_session.new.tx.conn.now in
      let early : HasCleanDisk mid = was_clean c.add_blob_link.ensures.survives clean in
      commit_then (state g.S.Store c.args.tx.now.conn.now) mid (state g.S.Store c.add_blob_link.new.tx.conn.now) (c.take_session.ensures.kept l early is) (c.add_blob_link.ensures.kept l clean (c.in-Ok.ensures.taken l early is).0);
  same_reference = c.add_blob_link.ensures.same_reference ∙ c.take_session.ensures.same_reference;
  survives = survives_both (state g.S.Store c.args.tx.now.conn.now) (state g.S.Store c.take_session.new.tx.conn.now) (state g.S.Store c.add_blob_link.new.tx.conn.now) c.take_session.ensures.survives c.add_blob_link.ensures.survives;
}

pub take_session-requires : goal.take_session-requires
take_session-requires g c = record { fits = c.requires.number_fits }

pub add_blob_link-requires : goal.add_blob_link-requires
add_blob_link-requires g c = record { fits = c.requires.fits }

pub returns-in-Err : goal.returns-in-Err
returns-in-Err g c = record {
  ended = λ l clean is fresh. tt;
  kept = c.take_session.ensures.kept;
  same_reference = c.take_session.ensures.same_reference;
  survives = c.take_session.ensures.survives;
}
