use Rattle.std.proofs.Common.{◌∙◌, inl, inr, refl, sym}
use Rattle.std.proofs.lemmas.Result.{IfOk-from_err}
use Rattle.sqlite.specs.State.{HasCleanDisk}
use Rattle.sqlite.specs.Held.{state}
use Rattle.sqlite.proofs.Callers.{survives_begin}
use Rattle.store_schema.proofs.Selects.{survives_both}
use Rattle.store_contents.specs.Layouts.{InTables}
use Rattle.store_statements.specs.Held.{SettlesOn}
use Rattle.store_statements.proofs.Checks.{survives_here}
use Rattle.store_statements.proofs.CleanBefore.{was_clean}
use Rattle.store_statements.proofs.Transactions.{survives_all, undone_back, failed_back, told_err}
use Rattle.store_opening.specs.Asking.{IsWanting, IsUnnumbered}
use Rattle.store_migration.specs.OldFile.{old_world_in}
use Rattle.store_migration.proofs.Asked.{passed_on}
use Rattle.store_migration.proofs.Finishes.{settles, left_done, left_given_up, left_tried, left_unmade}
use Rattle.store_migration.proofs.migration.take_over.Goals as goal

pub returns-then-not-is_autocommit : goal.returns-then-not-is_autocommit
returns-then-not-is_autocommit g c = record {
  moved = λ clean holds. tt;
  counted = λ clean holds. tt;
  wanting = λ clean holds. inr refl;
  back = λ clean idle holds is_open. (refl, refl);
  free = λ clean. tt;
  unnumbered = tt;
  crash = λ clean idle holds trees may. (tt, inl (left_unmade g.S.Store g.met.S.Store.settled c.args.conn.now idle trees may));
  survives = survives_here (state g.S.Store c.args.conn.now);
}

pub returns-in-Ok : goal.returns-in-Ok
returns-in-Ok g c =
    let begun = c.transaction-tx.ensures.begun in
    let mid = state g.S.Store c.rewrite.new.tx.conn.now in
    let end = state g.S.Store c.commit.new.self.0 in
    let early : HasCleanDisk end → HasCleanDisk mid = was_clean c.commit.ensures.survives in
    let same = c.conn-2-1.given.1 (sym (c.rewrite.ensures.same_reference ∙ c.transaction-tx.ensures.same_reference)) in
    rw same (record {
      moved = λ clean holds. rw begun at (settles mid end _ (c.in_ok-moved.ensures.made (early clean) (rw begun holds)) (c.in-Ok.ensures.ok clean).1);
      counted = λ clean holds. rw begun at (c.in_ok-moved.ensures.counted (early clean) (rw begun holds));
      wanting = λ clean holds. tt;
      back = λ clean idle holds. tt;
      free = λ clean. rw begun at (c.in_ok-moved.ensures.free (early clean));
      unnumbered = tt;
      crash = λ clean idle holds trees may.
          let it : SettlesOn InTables end (old_world_in (state g.S.Store c.args.conn.now).now) = rw begun at (settles mid end _ (c.in_ok-moved.ensures.made (early clean) (rw begun holds)) (c.in-Ok.ensures.ok clean).1) in
          let left = left_done g.S.Store g.met.S.Store.settled c.commit.new.self.0 (old_world_in (state g.S.Store c.args.conn.now).now) it trees may in
          (left, inr left);
      survives = survives_all (state g.S.Store c.args.conn.now) mid end _ _ (survives_begin g.S.Store c.args.conn.now mid _ (rw begun at c.rewrite.ensures.survives)) c.commit.ensures.survives;
    })

pub returns-in-Err : goal.returns-in-Err
returns-in-Err g c =
    let begun = c.transaction-tx.ensures.begun in
    let old = state g.S.Store c.args.conn.now in
    let mid = state g.S.Store c.rewrite.new.tx.conn.now in
    let end = state g.S.Store c.commit.new.self.0 in
    let early : HasCleanDisk end → HasCleanDisk mid = was_clean c.commit.ensures.survives in
    let same = c.conn-2-1.given.1 (sym (c.rewrite.ensures.same_reference ∙ c.transaction-tx.ensures.same_reference)) in
    rw same (record {
      moved = λ clean holds. tt;
      counted = λ clean holds. tt;
      wanting = λ clean holds. c.fault_in_opening.ensures.wanting;
      back = λ clean idle holds.
          failed_back old (state g.S.Store c.transaction-tx.result.conn.now) mid end _ idle.committed (rw begun)
          (c.rewrite.ensures.kept (early clean) (rw begun holds)) (c.in_ok-moved.ensures.made (early clean) (rw begun holds)).0.inside (c.in-Err.ensures.err clean);
      free = λ clean. tt;
      unnumbered = c.fault_in_opening.ensures.unnumbered;
      crash = λ clean idle holds trees may.
          (tt, left_tried g.S.Store g.met.S.Store.settled c.args.conn.now idle mid end (old_world_in old.now) (survives_begin g.S.Store c.args.conn.now mid _ (rw begun at c.rewrite.ensures.survives)) c.commit.ensures.survives clean (rw begun at (c.in_ok-moved.ensures.made (early clean) (rw begun holds))) trees may);
      survives = survives_all old mid end _ _ (survives_begin g.S.Store c.args.conn.now mid _ (rw begun at c.rewrite.ensures.survives)) c.commit.ensures.survives;
    })

pub returns-in_err-moved : goal.returns-in_err-moved
returns-in_err-moved g c =
    let begun = c.transaction-tx.ensures.begun in
    let old = state g.S.Store c.args.conn.now in
    let mid = state g.S.Store c.rewrite.new.tx.conn.now in
    let end = state g.S.Store c.drop-tx.new.self.0 in
    let early : HasCleanDisk end → HasCleanDisk mid = was_clean c.drop-tx.ensures.survives in
    let same = c.conn-1.given.1 (sym (c.rewrite.ensures.same_reference ∙ c.transaction-tx.ensures.same_reference)) in
    rw same (record {
      moved = λ clean holds. IfOk-from_err c.from_residual.result _ c.from_residual.ensures.0;
      counted = λ clean holds. IfOk-from_err c.from_residual.result _ c.from_residual.ensures.0;
      wanting = λ clean holds. passed_on IsWanting c.from_residual.result c.in_err-moved.field-0.0 c.from_residual.ensures.1 (c.in_err-moved.ensures.wanting (early clean) (rw begun holds));
      back = λ clean idle holds.
          told_err c.from_residual.result
          (undone_back old (state g.S.Store c.transaction-tx.result.conn.now) mid end idle.committed (rw begun) (c.rewrite.ensures.kept (early clean) (rw begun holds)) (c.drop-tx.ensures.undone clean));
      free = λ clean. IfOk-from_err c.from_residual.result _ c.from_residual.ensures.0;
      unnumbered = passed_on IsUnnumbered c.from_residual.result c.in_err-moved.field-0.0 c.from_residual.ensures.1 c.in_err-moved.ensures.unnumbered;
      crash = λ clean idle holds trees may.
          (IfOk-from_err c.from_residual.result _ c.from_residual.ensures.0, inl (left_given_up g.S.Store g.met.S.Store.settled c.args.conn.now idle end (survives_both old mid end (survives_begin g.S.Store c.args.conn.now mid _ (rw begun at c.rewrite.ensures.survives)) c.drop-tx.ensures.survives) clean trees may));
      survives = survives_all old mid end _ _ (survives_begin g.S.Store c.args.conn.now mid _ (rw begun at c.rewrite.ensures.survives)) c.drop-tx.ensures.survives;
    })
