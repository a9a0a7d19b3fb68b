use Rattle.std.proofs.Common.{Ok}
use Rattle.sqlite.specs.Held.{state}
use Rattle.store_opening.proofs.VersionRows.{version_by}
use Rattle.sqlite.specs.State.{HasCleanDisk}
use Rattle.store_statements.proofs.CommitsKept.{kept_by_execute}
use Rattle.store_opening.proofs.BesideTables.{made_beside}
use Rattle.store_statements.proofs.CleanBefore.{was_clean}
use Rattle.store_opening.proofs.making.add_version.Goals as goal

pub returns-in-Ok : goal.returns-in-Ok
returns-in-Ok g c = record {
  added = λ clean is. version_by (state g.S.Store c.args.tx.now.conn.now) (state g.S.Store c.execute.new.self.conn.now) (Ok c.in-Ok.field-0) is (c.in-Ok.ensures.runs clean is.inside);
  wanting = tt;
  beside = λ clean first comes.
      let early : HasCleanDisk (state g.S.Store c.args.tx.now.conn.now) = was_clean c.execute.ensures.survives clean in
      let inside = c.requires.begun early in
      made_beside first (state g.S.Store c.args.tx.now.conn.now) (state g.S.Store c.execute.new.self.conn.now) comes (Ok c.in-Ok.field-0) inside (c.in-Ok.ensures.runs clean inside);
  inside = λ clean.
      let early : HasCleanDisk (state g.S.Store c.args.tx.now.conn.now) = was_clean c.execute.ensures.survives clean in
      (c.in-Ok.ensures.runs clean (c.requires.begun early)).1.mode;
  kept = λ clean.
      let early : HasCleanDisk (state g.S.Store c.args.tx.now.conn.now) = was_clean c.execute.ensures.survives clean in
      kept_by_execute _ _ (state g.S.Store c.args.tx.now.conn.now) (state g.S.Store c.execute.new.self.conn.now) c.execute.result (c.execute.ensures.runs clean (c.requires.begun early));
  same_reference = c.execute.ensures.same_reference;
  survives = c.execute.ensures.survives;
}

pub returns-in-Err : goal.returns-in-Err
returns-in-Err g c = record {
  added = λ clean is. tt;
  wanting = c.fault_in_opening.ensures.wanting;
  beside = λ clean first comes. tt;
  inside = λ clean. tt;
  kept = λ clean.
      let early : HasCleanDisk (state g.S.Store c.args.tx.now.conn.now) = was_clean c.execute.ensures.survives clean in
      kept_by_execute _ _ (state g.S.Store c.args.tx.now.conn.now) (state g.S.Store c.execute.new.self.conn.now) c.execute.result (c.execute.ensures.runs clean (c.requires.begun early));
  same_reference = c.execute.ensures.same_reference;
  survives = c.execute.ensures.survives;
}
