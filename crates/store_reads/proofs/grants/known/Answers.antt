use Rattle.std.proofs.Common.{sym}
use Rattle.sqlite.specs.Held.{state}
use Rattle.store_statements.proofs.Ordered.{known_found}
use Rattle.store_statements.specs.Held.{held}
use Rattle.store_statements.proofs.Transactions.{registry}
use Rattle.store_reads.proofs.WorldReads.{told}
use Rattle.store_reads.proofs.grants.known.Goals as goal

pub returns : goal.returns
returns g c = record {
  found = λ l clean is.
      told c.is_known.result _ _ (sym (known_found (held l (state g.S.Store c.args.conn.now)) c.args.token.now (registry (state g.S.Store c.args.conn.now) is))) (rw c.as_str.ensures.text at (c.is_known.ensures.found l clean is));
  settled = c.is_known.ensures.settled;
  survives = c.is_known.ensures.survives;
}
