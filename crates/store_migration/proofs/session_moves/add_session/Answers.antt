use Rattle.std.proofs.Common.{◌∙◌, ◌≡◌, ◌<◌, length, rules, arith}
use Rattle.sqlite.specs.State.{HasCleanDisk}
use Rattle.sqlite.specs.Held.{state}
use Rattle.store_schema.proofs.Selects.{commit_then, survives_both}
use Rattle.store_contents.specs.Layouts.{InTables}
use Rattle.store_statements.specs.Held.{held}
use Rattle.store_migration.proofs.SessionSteps.{no_bytes, some_bytes, upload_pieces, stored_empty, stored_filled}
use Rattle.store_migration.proofs.session_moves.add_session.Goals as goal

pub returns-then-is_empty : goal.returns-then-is_empty
returns-then-is_empty g c = record {
  stored = λ clean is free fresh.
      let none : length c.args.bytes.now ≡ 0 = search rules in
      stored_empty (state g.S.Store c.args.tx.now.conn.now) (state g.S.Store c.add_upload.new.tx.conn.now) c.args.repo.now c.args.number c.args.bytes.now (no_bytes c.args.bytes.now none) (c.in-Ok.ensures.added InTables clean is free);
  kept = λ clean is free. c.add_upload.ensures.kept InTables clean is;
  same_reference = c.add_upload.ensures.same_reference;
  survives = c.add_upload.ensures.survives;
}

pub returns-else-is_empty : goal.returns-else-is_empty
returns-else-is_empty g c = record {
  stored = λ clean is free fresh.
      let old = state g.S.Store c.args.tx.now.conn.now in
      let mid = state g.S.Store c.add_upload.new.tx.conn.now in
      let early : HasCleanDisk mid = omega (arith, c.fill.ensures.survives.clean) in
      let more : 0 < length c.args.bytes.now = some_bytes c.args.bytes.now (let a = c.is_empty.ensures in let b = c.if-is_empty.false in cc) in
      let here = c.in-Ok.ensures.added InTables early is free in
      stored_filled old mid (state g.S.Store c.fill.new.tx.conn.now) c.args.repo.now c.args.number c.args.bytes.now c.fill.result more here
      (c.fill.ensures.filled clean here.ready (upload_pieces (held InTables old) (held InTables mid) c.args.repo.now c.args.number here.others fresh));
  kept = λ clean is free.
      let mid = state g.S.Store c.add_upload.new.tx.conn.now in
      let early : HasCleanDisk mid = omega (arith, c.fill.ensures.survives.clean) in
      commit_then (state g.S.Store c.args.tx.now.conn.now) mid (state g.S.Store c.fill.new.tx.conn.now)
      (c.add_upload.ensures.kept InTables early is) (c.fill.ensures.kept clean (c.in-Ok.ensures.added InTables early is free).ready);
  same_reference = c.fill.ensures.same_reference ∙ c.add_upload.ensures.same_reference;
  survives = survives_both (state g.S.Store c.args.tx.now.conn.now) (state g.S.Store c.add_upload.new.tx.conn.now) (state g.S.Store c.fill.new.tx.conn.now) c.add_upload.ensures.survives c.fill.ensures.survives;
}

pub returns-in-Err : goal.returns-in-Err
returns-in-Err g c = record {
  stored = λ clean is free fresh. tt;
  kept = λ clean is free. c.add_upload.ensures.kept InTables clean is;
  same_reference = c.add_upload.ensures.same_reference;
  survives = c.add_upload.ensures.survives;
}
