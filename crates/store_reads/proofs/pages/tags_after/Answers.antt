use Rattle.sqlite.specs.Held.{state}
use Rattle.store_statements.proofs.Pages.{page_found}
use Rattle.store_statements.specs.Held.{held}
use Rattle.store_statements.proofs.Transactions.{registry}
use Rattle.store_reads.proofs.WorldReads.{page_told}
use Rattle.store_reads.proofs.pages.tags_after.Goals as goal

pub returns-in-Ok : goal.returns-in-Ok
returns-in-Ok g c = record {
  found = λ l clean is.
      page_told _ _ _ _ (page_found (held l (state g.S.Store c.args.conn.now)) c.args.repo.now c.args.last.now c.args.n (registry (state g.S.Store c.args.conn.now) is)) (rw c.as_str.ensures.text at (c.in-Ok.ensures.found l clean is));
  settled = c.in-Ok.ensures.settled;
  survives = c.tags_page.ensures.survives;
}

pub returns-in-Err : goal.returns-in-Err
returns-in-Err g c = record {
  found = λ l clean is. tt;
  settled = λ l clean is unspent. c.in-Err.ensures.settled l clean is unspent;
  survives = c.tags_page.ensures.survives;
}
