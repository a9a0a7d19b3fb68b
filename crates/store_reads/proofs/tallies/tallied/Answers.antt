use Rattle.std.proofs.Common.{◌≡◌}
use Rattle.store_reads.specs.Tallies.{tally_of}
use Rattle.store_reads.proofs.Passing.{of_found, not_failed, failed_so}
use Rattle.store_reads.proofs.tallies.tallied.Goals as goal

pub returns-in-Ok : goal.returns-in-Ok
returns-in-Ok c = record {
  value = of_found (λ sizes. c.added_up.result ≡ tally_of sizes.items) c.args.found c.in-Ok.sizes c.in-Ok.is (rw c.deref.ensures.value at c.added_up.ensures);
  storage = λ off. not_failed c.args.found c.in-Ok.sizes c.in-Ok.is;
}

pub returns-in-Err : goal.returns-in-Err
returns-in-Err c = record {
  value = tt;
  storage = failed_so c.args.found c.in-Err.fault c.in-Err.is;
}
