use Rattle.std.proofs.Common.{◌∙◌, arith}
use Rattle.sqlite.specs.State.{HasCleanDisk}
use Rattle.sqlite.specs.Held.{state}
use Rattle.store_schema.proofs.Selects.{commit_then, survives_both}
use Rattle.store_contents.specs.Layouts.{InTables}
use Rattle.store_statements.specs.Held.{held}
use Rattle.store_migration.proofs.SessionSteps.{free, no_start, olds_after, moved_if}
use Rattle.store_migration.proofs.session_moves.move_found.Goals as goal

pub returns-in-Ok : goal.returns-in-Ok
returns-in-Ok g c = record {
  moved = λ clean is under found.
      let old = state g.S.Store c.args.tx.now.conn.now in
      let mid = state g.S.Store c.add_session.new.tx.conn.now in
      let early : HasCleanDisk mid = omega (arith, c.take_session.ensures.survives.clean) in
      let none = free (held InTables old) c.args.repo.now c.args.number c.args.bytes.now under found in
      let here = c.in-Ok.ensures.stored early is none (no_start (held InTables old) c.args.repo.now c.args.number under none) in
      moved_if old mid (state g.S.Store c.take_session.new.tx.conn.now) c.args.repo.now c.args.number c.args.bytes.now c.take_session.result under found here.1
      (c.take_session.ensures.taken clean here.0 (olds_after (held InTables old) (held InTables mid) c.args.repo.now c.args.number c.args.bytes.now under here.1));
  kept = λ clean is under found.
      let old = state g.S.Store c.args.tx.now.conn.now in
      let mid = state g.S.Store c.add_session.new.tx.conn.now in
      let early : HasCleanDisk mid = omega (arith, c.take_session.ensures.survives.clean) in
      let none = free (held InTables old) c.args.repo.now c.args.number c.args.bytes.now under found in
      let here = c.in-Ok.ensures.stored early is none (no_start (held InTables old) c.args.repo.now c.args.number under none) in
      commit_then old mid (state g.S.Store c.take_session.new.tx.conn.now) (c.add_session.ensures.kept early is none) (c.take_session.ensures.kept clean here.0);
  same_reference = c.take_session.ensures.same_reference ∙ c.add_session.ensures.same_reference;
  survives = survives_both (state g.S.Store c.args.tx.now.conn.now) (state g.S.Store c.add_session.new.tx.conn.now) (state g.S.Store c.take_session.new.tx.conn.now) c.add_session.ensures.survives c.take_session.ensures.survives;
}

pub returns-in-Err : goal.returns-in-Err
returns-in-Err g c = record {
  moved = λ clean is under found. tt;
  kept = λ clean is under found. c.add_session.ensures.kept clean is (free (held InTables (state g.S.Store c.args.tx.now.conn.now)) c.args.repo.now c.args.number c.args.bytes.now under found);
  same_reference = c.add_session.ensures.same_reference;
  survives = c.add_session.ensures.survives;
}
