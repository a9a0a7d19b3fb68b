use Rattle.order_carrying.proofs.FailedReads.{so_failed, returns_so}
use Rattle.order_carrying.proofs.GrantLemmas.{grants_read}
use Rattle.order_carrying.proofs.grants.on_one.Goals as goal

pub returns-in_err-levels : goal.returns-in_err-levels
returns-in_err-levels g c = returns_so _ c.from_residual.result _ _ _ _ _ c.from_residual.ensures (so_failed _ _ _ _ _ c.in_err-levels.ensures)

pub returns-in-Ok : goal.returns-in-Ok
returns-in-Ok g c = record {
  found = λ honest.
      let told = c.in_ok-levels.ensures.found honest in
      ((c.in_ok-levels.levels.items, told.0, grants_read c.args.name.now c.args.asked.now c.args.shown _ _ _ c.deref.ensures.value c.in-Ok.ensures), told.1);
  spends = c.in_ok-levels.ensures.spends;
  honest = c.in_ok-levels.ensures.honest;
}

pub returns : goal.returns
returns g c = record {
  found = λ honest. (c.in_ok-levels.ensures.found honest).1;
  spends = c.in_ok-levels.ensures.spends;
  honest = c.in_ok-levels.ensures.honest;
}
