use Rattle.std.proofs.Common.{◌∙◌, ap}
use Rattle.std.specs.Prelude.{find}
use Rattle.sqlite.specs.State.{HasCleanDisk}
use Rattle.sqlite.specs.Held.{state}
use Rattle.store_schema.proofs.Selects.{commit_then, survives_both}
use Rattle.store_statements.specs.Keys.{of_session}
use Rattle.store_writes.proofs.BytesStored.{opened_if}
use Rattle.store_statements.specs.Tables.{Tables}
use Rattle.store_statements.proofs.CleanBefore.{was_clean}
use Rattle.store_writes.proofs.session_changes.add_session.Goals as goal

pub returns-in-Ok : goal.returns-in-Ok
returns-in-Ok g c = record {
  opened = λ l clean is fresh.
      let mid = state g.S.Store c.set_last.new.tx.conn.now in
      let new = state g.S.Store c.add_upload.new.tx.conn.now in
      let early : HasCleanDisk mid = was_clean c.add_upload.ensures.survives clean in
      let first = c.in-Ok.ensures.set l early is in
      opened_if l _ mid new c.args.repo.now c.args.number c.add_upload.result first.1
      (c.add_upload.ensures.added l clean first.0 (ap (λ (t : Tables). find (of_session c.args.repo.now c.args.number) t.uploads) first.1 ∙ fresh));
  kept = λ l clean is.
      let mid = state g.S.Store c.set_last.new.tx.conn.now in
      let early : HasCleanDisk mid = was_clean c.add_upload.ensures.survives clean in
      commit_then (state g.S.Store c.args.tx.now.conn.now) mid (state g.S.Store c.add_upload.new.tx.conn.now) (c.set_last.ensures.kept l early is) (c.add_upload.ensures.kept l clean (c.in-Ok.ensures.set l early is).0);
  same_reference = c.add_upload.ensures.same_reference ∙ c.set_last.ensures.same_reference;
  survives = survives_both (state g.S.Store c.args.tx.now.conn.now) (state g.S.Store c.set_last.new.tx.conn.now) (state g.S.Store c.add_upload.new.tx.conn.now) c.set_last.ensures.survives c.add_upload.ensures.survives;
}

pub set_last-requires : goal.set_last-requires
set_last-requires g c = record { fits = c.requires.fits }

pub add_upload-requires : goal.add_upload-requires
add_upload-requires g c = record { fits = c.requires.fits }

pub returns-in-Err : goal.returns-in-Err
returns-in-Err g c = record {
  opened = λ l clean is fresh. tt;
  kept = c.set_last.ensures.kept;
  same_reference = c.set_last.ensures.same_reference;
  survives = c.set_last.ensures.survives;
}
