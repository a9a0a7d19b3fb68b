use Rattle.std.proofs.Common.{◌∙◌, arith, ap, sym, Some}
use Rattle.sqlite.specs.State.{HasCleanDisk, IsUnchanged}
use Rattle.sqlite.specs.Held.{state}
use Rattle.store_schema.proofs.Selects.{commit_then, survives_both}
use Rattle.store_contents.specs.Layouts.{InTables}
use Rattle.store_statements.specs.Held.{held}
use Rattle.store_migration.specs.Shown.{shown}
use Rattle.store_migration.specs.Moving.{without_blob}
use Rattle.store_migration.proofs.Underway.{ready_read, underway_read, moved_read}
use Rattle.store_migration.proofs.BlobSteps.{Found, found_read, not_there}
use Rattle.store_migration.proofs.blob_moves.move_blob.Goals as goal

pub returns-else-len-gt-LARGEST : goal.returns-else-len-gt-LARGEST
returns-else-len-gt-LARGEST g c = record {
  moved = λ clean is under.
      let old = state g.S.Store c.args.tx.now.conn.now in
      let mid = state g.S.Store c.blob_bytes.new.tx.conn.now in
      let early : HasCleanDisk mid = omega (arith, c.move_found.ensures.survives.clean) in
      let u : IsUnchanged old mid = c.in-Ok-Some.ensures.same early is under.olds in
      let found : Found (held InTables old) c.args.repo.now c.args.digest.now c.deref.result.now = sym (c.in-Ok-Some.ensures.found early is under.olds) ∙ ap shown c.in-Ok-Some.field-0-is ∙ ap Some (sym c.deref.ensures.value) in
      let there = found_read old mid c.args.repo.now c.args.digest.now c.deref.result.now u found in
      moved_read old mid (state g.S.Store c.move_found.new.tx.conn.now) (without_blob c.args.repo.now c.args.digest.now) c.move_found.result u (c.move_found.ensures.moved clean (ready_read old mid is u) (underway_read old mid under u) there);
  kept = λ clean is under.
      let old = state g.S.Store c.args.tx.now.conn.now in
      let mid = state g.S.Store c.blob_bytes.new.tx.conn.now in
      let early : HasCleanDisk mid = omega (arith, c.move_found.ensures.survives.clean) in
      let u : IsUnchanged old mid = c.in-Ok-Some.ensures.same early is under.olds in
      let found : Found (held InTables old) c.args.repo.now c.args.digest.now c.deref.result.now = sym (c.in-Ok-Some.ensures.found early is under.olds) ∙ ap shown c.in-Ok-Some.field-0-is ∙ ap Some (sym c.deref.ensures.value) in
      let there = found_read old mid c.args.repo.now c.args.digest.now c.deref.result.now u found in
      commit_then old mid (state g.S.Store c.move_found.new.tx.conn.now) (c.in-Ok-Some.ensures.kept early is under.olds) (c.move_found.ensures.kept clean (ready_read old mid is u) (underway_read old mid under u) there);
  same_reference = c.move_found.ensures.same_reference ∙ c.in-Ok-Some.ensures.same_reference;
  survives = survives_both (state g.S.Store c.args.tx.now.conn.now) (state g.S.Store c.blob_bytes.new.tx.conn.now) (state g.S.Store c.move_found.new.tx.conn.now) c.in-Ok-Some.ensures.survives c.move_found.ensures.survives;
}

pub returns-in-Ok-None : goal.returns-in-Ok-None
returns-in-Ok-None g c = record {
  moved = λ clean is under.
      not_there (state g.S.Store c.args.tx.now.conn.now) (state g.S.Store c.blob_bytes.new.tx.conn.now) c.args.repo.now c.args.digest.now is under (c.in-Ok-None.ensures.same clean is under.olds)
      (sym (ap shown c.in-Ok-None.field-0-is) ∙ c.in-Ok-None.ensures.found clean is under.olds);
  kept = λ clean is under. c.in-Ok-None.ensures.kept clean is under.olds;
  same_reference = c.in-Ok-None.ensures.same_reference;
  survives = c.in-Ok-None.ensures.survives;
}

pub returns-then-len-gt-LARGEST : goal.returns-then-len-gt-LARGEST
returns-then-len-gt-LARGEST g c = record {
  moved = λ clean is under. tt;
  kept = λ clean is under. c.in-Ok-Some.ensures.kept clean is under.olds;
  same_reference = c.in-Ok-Some.ensures.same_reference;
  survives = c.in-Ok-Some.ensures.survives;
}

pub returns-in-Err : goal.returns-in-Err
returns-in-Err g c = record {
  moved = λ clean is under. tt;
  kept = λ clean is under. c.in-Err.ensures.kept clean is under.olds;
  same_reference = c.in-Err.ensures.same_reference;
  survives = c.in-Err.ensures.survives;
}
