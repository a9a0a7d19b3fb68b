use Rattle.std.proofs.Common.{◌∙◌}
use Rattle.order_carrying.proofs.FailedReads.{by_failed, so_failed, later, returns_so}
use Rattle.order_carrying.proofs.GrantLemmas.{no_grants, grants_there}
use Rattle.order_carrying.proofs.grants.grants.Goals as goal

pub returns-in_err-has_repo-in-Some : goal.returns-in_err-has_repo-in-Some
returns-in_err-has_repo-in-Some g c = returns_so _ c.from_residual.result _ _ _ _ _ c.from_residual.ensures (by_failed _ _ _ _ _ _ c.in_err-has_repo-in-Some.ensures)

pub returns-then-not-branch : goal.returns-then-not-branch
returns-then-not-branch g c =
    let looked = c.in_ok-has_repo-in-Some.ensures in
    record {
      found = λ honest. let told = looked.found honest in (no_grants _ _ _ c.args.asked.now c.args.shown _ c.in-Some.is told.0 c.if-not-branch.true, told.1);
      spends = looked.spends;
      honest = looked.honest;
    }

pub returns-in_err-on_one-in-Some : goal.returns-in_err-on_one-in-Some
returns-in_err-on_one-in-Some g c =
    let looked = c.in_ok-has_repo-in-Some.ensures in
    returns_so _ c.from_residual-in_err-on_one-in-Some.result _ _ _ _ _ c.from_residual-in_err-on_one-in-Some.ensures
    (later _ _ _ _ _ _ _ (λ between. (looked.found between).1) looked.honest looked.spends.0 (so_failed _ _ _ _ _ c.in_err-on_one-in-Some.ensures))

pub returns-in_ok-on_one-in-Some : goal.returns-in_ok-on_one-in-Some
returns-in_ok-on_one-in-Some g c =
    let looked = c.in_ok-has_repo-in-Some.ensures in
    let one = c.in_ok-on_one-in-Some.ensures in
    record {
      found = λ honest.
          let there = looked.found (one.honest honest) in
          let told = one.found honest in
          (grants_there _ _ _ _ c.args.asked.now c.args.shown _ _ c.in-Some.is there.0 c.if-not-branch.false there.1 told.0, told.1 ∙ there.1);
      spends = (looked.spends.0, one.spends.1);
      honest = λ honest. looked.honest (one.honest honest);
    }

pub returns-in-None : goal.returns-in-None
returns-in-None g c = record { found = rw c.in-None.is c.on_all.ensures.found; spends = c.on_all.ensures.spends; honest = c.on_all.ensures.honest }
