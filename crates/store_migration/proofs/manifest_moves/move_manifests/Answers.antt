use Rattle.std.proofs.Common.{◌∙◌, List, ap, arith}
use Rattle.std.proofs.lemmas.Result.{IfOk-from_err}
use Rattle.sqlite.specs.Order.{Row}
use Rattle.sqlite.specs.State.{HasCleanDisk}
use Rattle.sqlite.specs.Held.{state}
use Rattle.store_schema.proofs.Selects.{commit_then, survives_both}
use Rattle.store_migration.specs.Listed.{key_of}
use Rattle.store_migration.specs.Olds.{old_of}
use Rattle.store_migration.specs.Shown.{key_shown}
use Rattle.store_contents.specs.Layouts.{InTables}
use Rattle.store_statements.specs.Held.{held}
use Rattle.store_migration.specs.Moving.{without_listed_manifests, without_manifests}
use Rattle.store_migration.proofs.Underway.{ready_read, underway_read}
use Rattle.store_migration.proofs.ListedMoves.{all_moved, all_go, counted}
use Rattle.store_migration.proofs.manifest_moves.move_manifests.Goals as goal

pub returns : goal.returns
returns g c = record {
  moved = λ clean is under.
      let old = state g.S.Store c.args.tx.now.conn.now in
      let mid = state g.S.Store c.manifest_keys.new.tx.conn.now in
      let early : HasCleanDisk mid = omega (arith, c.move_listed.ensures.survives.clean) in
      let u = c.in_ok-keys.ensures.same early is under.olds in
      let rows = (old_of (held InTables old)).manifests in
      all_moved c.move_listed.result (without_listed_manifests c.in_ok-keys.keys.items) without_manifests old mid (state g.S.Store c.move_listed.new.tx.conn.now) u
      (ap (λ (left : List Row). record (old_of (held InTables old)) { manifests = left }) (all_go c.in_ok-keys.keys.items rows (c.in_ok-keys.ensures.found early is under.olds)))
      (rw c.deref.ensures.value at (c.move_listed.ensures.moved clean (ready_read old mid is u) (underway_read old mid under u)));
  counted = λ clean is under.
      let old = state g.S.Store c.args.tx.now.conn.now in
      let mid = state g.S.Store c.manifest_keys.new.tx.conn.now in
      let early : HasCleanDisk mid = omega (arith, c.move_listed.ensures.survives.clean) in
      counted c.move_listed.result key_of key_shown (old_of (held InTables old)).manifests c.in_ok-keys.keys.items (c.in_ok-keys.ensures.found early is under.olds)
      (rw c.deref.ensures.value at c.move_listed.ensures.counted);
  kept = λ clean is under.
      let old = state g.S.Store c.args.tx.now.conn.now in
      let mid = state g.S.Store c.manifest_keys.new.tx.conn.now in
      let early : HasCleanDisk mid = omega (arith, c.move_listed.ensures.survives.clean) in
      let u = c.in_ok-keys.ensures.same early is under.olds in
      commit_then old mid (state g.S.Store c.move_listed.new.tx.conn.now) (c.manifest_keys.ensures.kept early is under.olds) (c.move_listed.ensures.kept clean (ready_read old mid is u) (underway_read old mid under u));
  same_reference = c.move_listed.ensures.same_reference ∙ c.manifest_keys.ensures.same_reference;
  survives = survives_both (state g.S.Store c.args.tx.now.conn.now) (state g.S.Store c.manifest_keys.new.tx.conn.now) (state g.S.Store c.move_listed.new.tx.conn.now) c.manifest_keys.ensures.survives c.move_listed.ensures.survives;
}

pub returns-in_err-keys : goal.returns-in_err-keys
returns-in_err-keys g c = record {
  moved = λ clean is under. IfOk-from_err c.from_residual.result _ c.from_residual.ensures.0;
  counted = λ clean is under. IfOk-from_err c.from_residual.result _ c.from_residual.ensures.0;
  kept = λ clean is under. c.manifest_keys.ensures.kept clean is under.olds;
  same_reference = c.manifest_keys.ensures.same_reference;
  survives = c.manifest_keys.ensures.survives;
}
