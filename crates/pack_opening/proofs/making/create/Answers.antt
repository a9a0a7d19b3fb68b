use Rattle.std.proofs.Common.{◌∙◌, Ok, Err, Result, inr, arith, refl, sym}
use Rattle.std.specs.Prelude.{⊤}
use Rattle.std.proofs.lemmas.Result.{IfOk-from_err}
use Rattle.sqlite.specs.State.{HasCleanDisk}
use Rattle.sqlite.specs.Held.{state}
use Rattle.sqlite.proofs.Callers.{survives_begin}
use Rattle.store_schema.specs.Schema.{no_schema}
use Rattle.store_schema.specs.Making.{IsEmptyWith}
use Rattle.store_statements.proofs.Checks.{survives_here}
use Rattle.store_statements.proofs.Transactions.{survives_all, undone_back, failed_back, told_err}
use Rattle.store_opening.proofs.OpeningLemmas.{passed_on}
use Rattle.store_opening.specs.declared.opening.OpenFault.{OpenFault}
use Rattle.store_opening.specs.declared.opening.OpenFault.TheVariants.{Storage}
use Rattle.store_opening.specs.Asking.{IsWanting, IsUnnumbered}
use Rattle.pack_opening.proofs.MakingLemmas.{is_new, leaves_old, leaves_either, leaves_new, earlier_both}
use Rattle.store_statements.proofs.Crashes.{none_more}
use Rattle.pack_opening.proofs.making.create.Goals as goal

pub returns-then-not-is_autocommit : goal.returns-then-not-is_autocommit
returns-then-not-is_autocommit g c =
    let refused : Result ⊤ OpenFault = Err Storage in
    record {
      made = λ clean bare. tt;
      wanting = λ clean bare. inr refl;
      back = λ clean idle bare is_open. (refl, refl);
      crash = λ clean idle bare. leaves_old g.S.Store g.met.S.Store.settled c.args.mark.now c.args.conn.now c.args.conn.now refused (λ P. tt) idle
          (λ db may. may);
      unnumbered = tt;
      survives = survives_here (state g.S.Store c.args.conn.now);
    }

pub returns-in_err-make : goal.returns-in_err-make
returns-in_err-make g c =
    let old = state g.S.Store c.args.conn.now in
    let mid = state g.S.Store c.make.new.tx.conn.now in
    let end = state g.S.Store c.drop-tx.new.self.0 in
    let begun = c.transaction-tx.ensures.begun in
    let same = c.conn-1.given.1 (sym (c.make.ensures.same_reference ∙ c.transaction-tx.ensures.same_reference)) in
    let worked = survives_begin g.S.Store c.args.conn.now mid _ (rw begun at c.make.ensures.survives) in
    record {
      made = λ clean bare. IfOk-from_err c.from_residual.result _ c.from_residual.ensures.0;
      wanting = λ clean bare.
          let late : HasCleanDisk end = rw same at clean in
          let early : HasCleanDisk mid = omega (arith, c.drop-tx.ensures.survives.clean) in
          let empty : IsEmptyWith no_schema (state g.S.Store c.transaction-tx.result.conn.now).now = rw begun bare in
          passed_on IsWanting c.from_residual.result c.in_err-make.field-0.0 c.from_residual.ensures.1 (c.in_err-make.ensures.wanting early empty);
      back = λ clean idle bare.
          let late : HasCleanDisk end = rw same at clean in
          let early : HasCleanDisk mid = omega (arith, c.drop-tx.ensures.survives.clean) in
          let empty : IsEmptyWith no_schema (state g.S.Store c.transaction-tx.result.conn.now).now = rw begun bare in
          told_err c.from_residual.result
          (rw same (undone_back old (state g.S.Store c.transaction-tx.result.conn.now) mid end idle.committed (rw begun)
          (c.make.ensures.kept early empty) (c.drop-tx.ensures.undone late)));
      crash = λ clean idle bare.
          let late : HasCleanDisk end = rw same at clean in
          let early : HasCleanDisk mid = omega (arith, c.drop-tx.ensures.survives.clean) in
          rw same (leaves_old g.S.Store g.met.S.Store.settled c.args.mark.now c.args.conn.now c.drop-tx.new.self.0 c.from_residual.result
          (λ P. IfOk-from_err c.from_residual.result (λ _. P) c.from_residual.ensures.0) idle
          (earlier_both old mid end late early worked c.drop-tx.ensures.survives));
      unnumbered = passed_on IsUnnumbered c.from_residual.result c.in_err-make.field-0.0 c.from_residual.ensures.1 c.in_err-make.ensures.unnumbered;
      survives = rw same (survives_all old mid end _ _ worked c.drop-tx.ensures.survives);
    }

pub returns-in-Ok : goal.returns-in-Ok
returns-in-Ok g c =
    let old = state g.S.Store c.args.conn.now in
    let mid = state g.S.Store c.make.new.tx.conn.now in
    let end = state g.S.Store c.commit.new.self.0 in
    let begun = c.transaction-tx.ensures.begun in
    let same = c.conn-2-1.given.1 (sym (c.make.ensures.same_reference ∙ c.transaction-tx.ensures.same_reference)) in
    let worked = survives_begin g.S.Store c.args.conn.now mid _ (rw begun at c.make.ensures.survives) in
    let made : Result ⊤ OpenFault = Ok tt in
    record {
      made = λ clean bare.
          let late : HasCleanDisk end = rw same at clean in
          let early : HasCleanDisk mid = omega (arith, c.commit.ensures.survives.clean) in
          let empty : IsEmptyWith no_schema (state g.S.Store c.transaction-tx.result.conn.now).now = rw begun bare in
          rw same (is_new c.args.mark.now mid end (c.in_ok-make.ensures.made early empty) (c.in-Ok.ensures.ok late).1);
      wanting = λ clean bare. tt;
      back = λ clean idle bare. tt;
      crash = λ clean idle bare.
          let late : HasCleanDisk end = rw same at clean in
          let early : HasCleanDisk mid = omega (arith, c.commit.ensures.survives.clean) in
          let empty : IsEmptyWith no_schema (state g.S.Store c.transaction-tx.result.conn.now).now = rw begun bare in
          rw same (leaves_new g.S.Store g.met.S.Store.settled c.args.mark.now c.args.conn.now c.make.new.tx.conn.now c.commit.new.self.0 idle
          (c.in_ok-make.ensures.made early empty) (λ db may. none_more (worked.crash early db may))
          (λ db may. c.commit.ensures.survives.crash late db may) made (c.in-Ok.ensures.ok late).1);
      unnumbered = tt;
      survives = rw same (survives_all old mid end _ _ worked c.commit.ensures.survives);
    }

pub returns-in-Err : goal.returns-in-Err
returns-in-Err g c =
    let old = state g.S.Store c.args.conn.now in
    let mid = state g.S.Store c.make.new.tx.conn.now in
    let end = state g.S.Store c.commit.new.self.0 in
    let begun = c.transaction-tx.ensures.begun in
    let same = c.conn-2-1.given.1 (sym (c.make.ensures.same_reference ∙ c.transaction-tx.ensures.same_reference)) in
    let worked = survives_begin g.S.Store c.args.conn.now mid _ (rw begun at c.make.ensures.survives) in
    let failed : Result ⊤ OpenFault = Err c.fault_in_opening.result in
    record {
      made = λ clean bare. tt;
      wanting = λ clean bare. c.fault_in_opening.ensures.wanting;
      back = λ clean idle bare.
          let late : HasCleanDisk end = rw same at clean in
          let early : HasCleanDisk mid = omega (arith, c.commit.ensures.survives.clean) in
          let empty : IsEmptyWith no_schema (state g.S.Store c.transaction-tx.result.conn.now).now = rw begun bare in
          rw same (failed_back old (state g.S.Store c.transaction-tx.result.conn.now) mid end _ idle.committed (rw begun) (c.make.ensures.kept early empty)
          (c.in_ok-make.ensures.inside early empty) (c.in-Err.ensures.err late));
      crash = λ clean idle bare.
          let late : HasCleanDisk end = rw same at clean in
          let early : HasCleanDisk mid = omega (arith, c.commit.ensures.survives.clean) in
          let empty : IsEmptyWith no_schema (state g.S.Store c.transaction-tx.result.conn.now).now = rw begun bare in
          rw same (leaves_either g.S.Store g.met.S.Store.settled c.args.mark.now c.args.conn.now c.make.new.tx.conn.now c.commit.new.self.0 idle
          (c.in_ok-make.ensures.made early empty) (λ db may. none_more (worked.crash early db may))
          (λ db may. c.commit.ensures.survives.crash late db may) failed (λ P. tt));
      unnumbered = c.fault_in_opening.ensures.unnumbered;
      survives = rw same (survives_all old mid end _ _ worked c.commit.ensures.survives);
    }
