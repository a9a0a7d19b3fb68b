use Rattle.sqlite.specs.Held.{state}
use Rattle.store_statements.specs.Held.{held}
use Rattle.store_statements.proofs.Transactions.{registry}
use Rattle.store_reads.proofs.DeletedRows.{naming_found}
use Rattle.store_reads.proofs.deletion_lookups.count_tags_naming.Goals as goal

pub returns-in-Ok : goal.returns-in-Ok
returns-in-Ok g c = record {
  found = λ l clean is.
      naming_found (held l (state g.S.Store c.args.conn.now)) c.args.repo.now c.args.digest.now c.in-Ok.count (registry (state g.S.Store c.args.conn.now) is)
      (rw (c.as_str.ensures.text, c.as_str-2.ensures.text) at (c.in-Ok.ensures.found l clean is));
  settled = c.in-Ok.ensures.settled;
  kept = c.count_tags_named.ensures.kept;
  survives = c.count_tags_named.ensures.survives;
}

pub returns-in-Err : goal.returns-in-Err
returns-in-Err g c = record {
  found = λ l clean is. tt;
  settled = λ l clean is unspent. c.in-Err.ensures.settled l clean is unspent;
  kept = c.count_tags_named.ensures.kept;
  survives = c.count_tags_named.ensures.survives;
}
