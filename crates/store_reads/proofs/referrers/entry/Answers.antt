use Rattle.std.proofs.Common.{[], sym, ap, refl}
use Rattle.std.specs.Prelude.{unwrap_or}
use Rattle.store_reads.proofs.referrers.entry.Goals as goal

pub returns-in-Ok : goal.returns-in-Ok
returns-in-Ok g c = record {
  found = λ readable clean is. (refl, ap (λ o. unwrap_or o []) (sym (c.in-Ok.ensures.found readable clean is)));
  settled = c.in-Ok.ensures.settled;
  survives = c.content.ensures.survives;
  same = c.content.ensures.same;
}

pub returns-in-Err : goal.returns-in-Err
returns-in-Err g c = record {
  found = λ readable clean is. tt;
  settled = λ clean is unspent. c.in-Err.ensures.settled clean is unspent;
  survives = c.content.ensures.survives;
  same = c.content.ensures.same;
}
