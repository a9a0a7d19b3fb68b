use Rattle.std.proofs.Common.{true≢false}
use Rattle.sqlite.specs.Held.{state}
use Rattle.store_statements.specs.Held.{held}
use Rattle.store_statements.proofs.Transactions.{registry}
use Rattle.store_reads.proofs.WorldReads.{no_session}
use Rattle.store_reads.proofs.uploads.expect_no_session.Goals as goal

pub returns-in-Ok : goal.returns-in-Ok
returns-in-Ok g c = record {
  found = λ l clean is.
      no_session (held l (state g.S.Store c.args.conn.now)) c.args.repo.now c.args.number c.in-Ok.last (registry (state g.S.Store c.args.conn.now) is) (c.in-Ok.ensures.found l clean is) c.if-last-number.true;
  settled = c.in-Ok.ensures.settled;
  kept = c.last_number.ensures.kept;
  survives = c.last_number.ensures.survives;
}

pub returns-in-Ok-2 : goal.returns-in-Ok-2
returns-in-Ok-2 g c = record {
  found = λ l clean is. tt;
  settled = λ l clean is unspent. absurd (true≢false unspent);
  kept = c.last_number.ensures.kept;
  survives = c.last_number.ensures.survives;
}

pub returns-in-Err : goal.returns-in-Err
returns-in-Err g c = record {
  found = λ l clean is. tt;
  settled = λ l clean is unspent. c.in-Err.ensures.settled l clean is unspent;
  kept = c.last_number.ensures.kept;
  survives = c.last_number.ensures.survives;
}
