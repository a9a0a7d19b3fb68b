use Rattle.store_reads.proofs.repo_usages.with_usage.Goals as goal

pub returns-in-Ok : goal.returns-in-Ok
returns-in-Ok g c = record {
  found = λ l clean is. λ i. (c.args.repo, c.in-Ok.ensures.found l clean is i);
  settled = c.in-Ok.ensures.settled;
  survives = c.usage.ensures.survives;
}

pub returns-in-Err : goal.returns-in-Err
returns-in-Err g c = record {
  found = λ l clean is. tt;
  settled = λ l clean is unspent. c.in-Err.ensures.settled l clean is unspent;
  survives = c.usage.ensures.survives;
}
