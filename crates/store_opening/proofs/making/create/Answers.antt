use Rattle.std.proofs.Common.{◌∙◌, inr, arith, refl, sym}
use Rattle.std.proofs.lemmas.Result.{IfOk-from_err}
use Rattle.sqlite.specs.State.{HasCleanDisk}
use Rattle.sqlite.specs.Held.{state}
use Rattle.sqlite.proofs.Callers.{survives_begin}
use Rattle.store_schema.specs.Schema.{no_schema}
use Rattle.store_schema.specs.Making.{IsEmptyWith}
use Rattle.store_opening.proofs.FreshTables.{makes_none}
use Rattle.store_statements.proofs.Transactions.{survives_all, undone_back, failed_back, told_err}
use Rattle.store_opening.specs.Opening.{IsMadeBeside}
use Rattle.store_opening.specs.Asking.{IsWanting, IsUnnumbered}
use Rattle.store_statements.proofs.Checks.{survives_here}
use Rattle.store_opening.proofs.OpeningLemmas.{passed_on}
use Rattle.store_opening.proofs.BesideTables.{opened_beside}
use Rattle.store_opening.proofs.making.create.Goals as goal

pub returns-then-not-is_autocommit : goal.returns-then-not-is_autocommit
returns-then-not-is_autocommit g c = record {
  made = λ clean bare. tt;
  wanting = λ clean bare. inr refl;
  back = λ clean idle is_open. (refl, refl);
  free = λ clean. tt;
  beside = λ clean. tt;
  unnumbered = tt;
  survives = survives_here (state g.S.Store c.args.conn.now);
}

pub returns-in_err-make : goal.returns-in_err-make
returns-in_err-make g c = record {
  made = λ clean bare. IfOk-from_err c.from_residual.result _ c.from_residual.ensures.0;
  wanting = λ clean bare.
      let same = c.conn-1.given.1 (sym (c.make.ensures.same_reference ∙ c.transaction-tx.ensures.same_reference)) in
      let late : HasCleanDisk (state g.S.Store c.drop-tx.new.self.0) = rw same at clean in
      let mid : HasCleanDisk (state g.S.Store c.make.new.tx.conn.now) = omega (arith, c.drop-tx.ensures.survives.clean) in
      let empty : IsEmptyWith no_schema (state g.S.Store c.transaction-tx.result.conn.now).now = rw c.transaction-tx.ensures.begun bare in
      passed_on IsWanting c.from_residual.result c.in_err-make.field-0.0 c.from_residual.ensures.1 (c.in_err-make.ensures.wanting mid empty);
  back = λ clean idle.
      let begun = c.transaction-tx.ensures.begun in
      let same = c.conn-1.given.1 (sym (c.make.ensures.same_reference ∙ c.transaction-tx.ensures.same_reference)) in
      let late : HasCleanDisk (state g.S.Store c.drop-tx.new.self.0) = rw same at clean in
      let mid : HasCleanDisk (state g.S.Store c.make.new.tx.conn.now) = omega (arith, c.drop-tx.ensures.survives.clean) in
      told_err c.from_residual.result (rw same (undone_back (state g.S.Store c.args.conn.now) (state g.S.Store c.transaction-tx.result.conn.now) (state g.S.Store c.make.new.tx.conn.now) (state g.S.Store c.drop-tx.new.self.0) idle.committed (rw begun)
      (c.make.ensures.kept mid) (c.drop-tx.ensures.undone late)));
  free = λ clean. IfOk-from_err c.from_residual.result _ c.from_residual.ensures.0;
  beside = λ clean. IfOk-from_err c.from_residual.result _ c.from_residual.ensures.0;
  unnumbered = passed_on IsUnnumbered c.from_residual.result c.in_err-make.field-0.0 c.from_residual.ensures.1 c.in_err-make.ensures.unnumbered;
  survives =
      let same = c.conn-1.given.1 (sym (c.make.ensures.same_reference ∙ c.transaction-tx.ensures.same_reference)) in
      rw same (survives_all (state g.S.Store c.args.conn.now) (state g.S.Store c.make.new.tx.conn.now) (state g.S.Store c.drop-tx.new.self.0) _ _ (survives_begin g.S.Store c.args.conn.now (state g.S.Store c.make.new.tx.conn.now) _ (rw (c.transaction-tx.ensures.begun) at c.make.ensures.survives)) c.drop-tx.ensures.survives);
}

pub returns-in-Ok : goal.returns-in-Ok
returns-in-Ok g c = record {
  made = λ clean bare.
      let begun = c.transaction-tx.ensures.begun in
      let same = c.conn-2-1.given.1 (sym (c.make.ensures.same_reference ∙ c.transaction-tx.ensures.same_reference)) in
      let late : HasCleanDisk (state g.S.Store c.commit.new.self.0) = rw same at clean in
      let mid : HasCleanDisk (state g.S.Store c.make.new.tx.conn.now) = omega (arith, c.commit.ensures.survives.clean) in
      let empty : IsEmptyWith no_schema (state g.S.Store c.transaction-tx.result.conn.now).now = rw begun bare in
      rw same (makes_none (state g.S.Store c.make.new.tx.conn.now) (state g.S.Store c.commit.new.self.0) (c.in_ok-make.ensures.made mid empty) (c.in-Ok.ensures.ok late).1);
  wanting = λ clean bare. tt;
  back = λ clean idle. tt;
  free = λ clean.
      let begun = c.transaction-tx.ensures.begun in
      let same = c.conn-2-1.given.1 (sym (c.make.ensures.same_reference ∙ c.transaction-tx.ensures.same_reference)) in
      let late : HasCleanDisk (state g.S.Store c.commit.new.self.0) = rw same at clean in
      let mid : HasCleanDisk (state g.S.Store c.make.new.tx.conn.now) = omega (arith, c.commit.ensures.survives.clean) in
      rw begun at (c.in_ok-make.ensures.free mid);
  beside = λ clean.
      let begun = c.transaction-tx.ensures.begun in
      let same = c.conn-2-1.given.1 (sym (c.make.ensures.same_reference ∙ c.transaction-tx.ensures.same_reference)) in
      let late : HasCleanDisk (state g.S.Store c.commit.new.self.0) = rw same at clean in
      let mid : HasCleanDisk (state g.S.Store c.make.new.tx.conn.now) = omega (arith, c.commit.ensures.survives.clean) in
      let made : IsMadeBeside (state g.S.Store c.args.conn.now).now (state g.S.Store c.make.new.tx.conn.now) =
      (let it = c.in_ok-make.ensures.beside mid in record { kept = rw begun at it.kept; fresh = it.fresh }) in
      rw same (opened_beside (state g.S.Store c.args.conn.now).now (state g.S.Store c.make.new.tx.conn.now) (state g.S.Store c.commit.new.self.0) made (c.in-Ok.ensures.ok late).1);
  unnumbered = tt;
  survives =
      let same = c.conn-2-1.given.1 (sym (c.make.ensures.same_reference ∙ c.transaction-tx.ensures.same_reference)) in
      rw same (survives_all (state g.S.Store c.args.conn.now) (state g.S.Store c.make.new.tx.conn.now) (state g.S.Store c.commit.new.self.0) _ _ (survives_begin g.S.Store c.args.conn.now (state g.S.Store c.make.new.tx.conn.now) _ (rw (c.transaction-tx.ensures.begun) at c.make.ensures.survives)) c.commit.ensures.survives);
}

pub returns-in-Err : goal.returns-in-Err
returns-in-Err g c = record {
  made = λ clean bare. tt;
  wanting = λ clean bare. c.fault_in_opening.ensures.wanting;
  back = λ clean idle.
      let begun = c.transaction-tx.ensures.begun in
      let same = c.conn-2-1.given.1 (sym (c.make.ensures.same_reference ∙ c.transaction-tx.ensures.same_reference)) in
      let late : HasCleanDisk (state g.S.Store c.commit.new.self.0) = rw same at clean in
      let mid : HasCleanDisk (state g.S.Store c.make.new.tx.conn.now) = omega (arith, c.commit.ensures.survives.clean) in
      rw same (failed_back (state g.S.Store c.args.conn.now) (state g.S.Store c.transaction-tx.result.conn.now) (state g.S.Store c.make.new.tx.conn.now) (state g.S.Store c.commit.new.self.0) _ idle.committed (rw begun)
      (c.make.ensures.kept mid) (c.in_ok-make.ensures.inside mid) (c.in-Err.ensures.err late));
  free = λ clean. tt;
  beside = λ clean. tt;
  unnumbered = c.fault_in_opening.ensures.unnumbered;
  survives =
      let same = c.conn-2-1.given.1 (sym (c.make.ensures.same_reference ∙ c.transaction-tx.ensures.same_reference)) in
      rw same (survives_all (state g.S.Store c.args.conn.now) (state g.S.Store c.make.new.tx.conn.now) (state g.S.Store c.commit.new.self.0) _ _ (survives_begin g.S.Store c.args.conn.now (state g.S.Store c.make.new.tx.conn.now) _ (rw (c.transaction-tx.ensures.begun) at c.make.ensures.survives)) c.commit.ensures.survives);
}
