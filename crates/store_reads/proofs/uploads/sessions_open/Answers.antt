use Rattle.std.proofs.Common.{◌∙◌, sym}
use Rattle.sqlite.specs.Held.{state}
use Rattle.store_statements.proofs.SessionReads.{sessions_open_found}
use Rattle.store_statements.specs.Held.{held}
use Rattle.store_statements.proofs.Transactions.{registry}
use Rattle.store_reads.proofs.uploads.sessions_open.Goals as goal

pub returns-in-Ok : goal.returns-in-Ok
returns-in-Ok g c = record {
  found = λ l clean is.
      rw c.as_str.ensures.text at (c.in-Ok.ensures.found l clean is) ∙ sym (sessions_open_found (held l (state g.S.Store c.args.conn.now)) c.args.repo.now (registry (state g.S.Store c.args.conn.now) is));
  settled = c.in-Ok.ensures.settled;
  survives = c.count_uploads.ensures.survives;
}

pub returns-in-Err : goal.returns-in-Err
returns-in-Err g c = record {
  found = λ l clean is. tt;
  settled = λ l clean is unspent. c.in-Err.ensures.settled l clean is unspent;
  survives = c.count_uploads.ensures.survives;
}
