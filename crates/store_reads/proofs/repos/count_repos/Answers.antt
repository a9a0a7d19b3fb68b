use Rattle.std.proofs.Common.{◌∙◌, sym}
use Rattle.sqlite.specs.Held.{state}
use Rattle.store_statements.specs.Held.{held}
use Rattle.store_statements.proofs.Transactions.{registry}
use Rattle.store_reads.proofs.RepoLists.{count_found}
use Rattle.store_reads.proofs.repos.count_repos.Goals as goal

pub returns-in-Ok : goal.returns-in-Ok
returns-in-Ok g c = record {
  found = λ l clean is.
      c.in-Ok.ensures.found l clean is ∙ sym (count_found (held l (state g.S.Store c.args.conn.now)) (registry (state g.S.Store c.args.conn.now) is));
  settled = c.in-Ok.ensures.settled;
  survives = c.count_repos.ensures.survives;
}

pub returns-in-Err : goal.returns-in-Err
returns-in-Err g c = record {
  found = λ l clean is. tt;
  settled = λ l clean is unspent. c.in-Err.ensures.settled l clean is unspent;
  survives = c.count_repos.ensures.survives;
}
