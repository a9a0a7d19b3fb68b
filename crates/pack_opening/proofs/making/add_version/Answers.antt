use Rattle.std.proofs.Common.{Ok}
use Rattle.sqlite.specs.Held.{state}
use Rattle.sqlite.specs.State.{HasCleanDisk}
use Rattle.store_statements.proofs.CleanBefore.{was_clean}
use Rattle.store_statements.proofs.CommitsKept.{kept_by_execute}
use Rattle.pack_opening.proofs.MakingLemmas.{put_by}
use Rattle.pack_opening.proofs.making.add_version.Goals as goal

pub returns-in-Ok : goal.returns-in-Ok
returns-in-Ok g c =
    let old = state g.S.Store c.args.tx.now.conn.now in
    let new = state g.S.Store c.execute.new.self.conn.now in
    record {
      added = λ clean it.
          let early : HasCleanDisk old = was_clean c.execute.ensures.survives clean in
          put_by old new (Ok c.in-Ok.field-0) it (c.in-Ok.ensures.runs clean (c.requires.begun early));
      wanting = tt;
      inside = λ clean.
          let early : HasCleanDisk old = was_clean c.execute.ensures.survives clean in
          (c.in-Ok.ensures.runs clean (c.requires.begun early)).1.mode;
      kept = λ clean.
          let early : HasCleanDisk old = was_clean c.execute.ensures.survives clean in
          kept_by_execute _ _ old new c.execute.result (c.execute.ensures.runs clean (c.requires.begun early));
      same_reference = c.execute.ensures.same_reference;
      survives = c.execute.ensures.survives;
    }

pub returns-in-Err : goal.returns-in-Err
returns-in-Err g c =
    let old = state g.S.Store c.args.tx.now.conn.now in
    let new = state g.S.Store c.execute.new.self.conn.now in
    record {
      added = λ clean it. tt;
      wanting = c.fault_in_opening.ensures.wanting;
      inside = λ clean. tt;
      kept = λ clean.
          let early : HasCleanDisk old = was_clean c.execute.ensures.survives clean in
          kept_by_execute _ _ old new c.execute.result (c.execute.ensures.runs clean (c.requires.begun early));
      same_reference = c.execute.ensures.same_reference;
      survives = c.execute.ensures.survives;
    }
