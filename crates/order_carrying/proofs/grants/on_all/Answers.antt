use Rattle.order_carrying.proofs.FailedReads.{so_failed, returns_so}
use Rattle.order_carrying.proofs.GrantLemmas.{grants_told}
use Rattle.order_carrying.proofs.grants.on_all.Goals as goal

pub returns-in_err-grants : goal.returns-in_err-grants
returns-in_err-grants g c = returns_so _ c.from_residual.result _ _ _ _ _ c.from_residual.ensures (so_failed _ _ _ _ _ c.in_err-grants.ensures)

pub returns-in-Ok : goal.returns-in-Ok
returns-in-Ok g c = record {
  found = λ honest.
      let told = c.in_ok-grants.ensures.found honest in
      (grants_told (g.K.Keeper.kept c.args.service.now).world c.args.asked.now c.args.shown _ _ _ c.deref.ensures.value c.in-Ok.ensures told.0, told.1);
  spends = c.in_ok-grants.ensures.spends;
  honest = c.in_ok-grants.ensures.honest;
}

pub returns : goal.returns
returns g c = record {
  found = λ honest. (c.in_ok-grants.ensures.found honest).1;
  spends = c.in_ok-grants.ensures.spends;
  honest = c.in_ok-grants.ensures.honest;
}
