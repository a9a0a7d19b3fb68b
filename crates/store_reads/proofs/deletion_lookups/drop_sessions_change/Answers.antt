use Rattle.std.proofs.Common.{false, refl}
use Rattle.sqlite.specs.Held.{state}
use Rattle.store_statements.specs.Held.{held}
use Rattle.store_statements.proofs.Transactions.{registry}
use Rattle.store_reads.proofs.TallyLemmas.{tallied}
use Rattle.store_reads.proofs.DeletedRows.{sessions_end}
use Rattle.store_reads.proofs.deletion_lookups.drop_sessions_change.Goals as goal

pub returns-in-Ok : goal.returns-in-Ok
returns-in-Ok g c = record {
  found = λ l clean is.
      let t = held l (state g.S.Store c.args.conn.now) in
      sessions_end t c.args.repo.now c.in-Ok.tally (registry (state g.S.Store c.args.conn.now) is)
      (tallied t.uploads c.args.repo.now c.upload_sizes.result c.in-Ok.tally (rw c.as_str.ensures.text at (c.upload_sizes.ensures.found l clean is)) c.in-Ok.ensures.value) c.if-tally-lt18446744073709551615.true;
  settled = λ l clean is unspent. c.upload_sizes.ensures.settled l clean is (c.in-Ok.ensures.storage (refl {a = false}));
  kept = c.upload_sizes.ensures.kept;
  survives = c.upload_sizes.ensures.survives;
}

pub returns-in-Ok-2 : goal.returns-in-Ok-2
returns-in-Ok-2 g c = record {
  found = λ l clean is. tt;
  settled = λ l clean is unspent. c.upload_sizes.ensures.settled l clean is (c.in-Ok-2.ensures.storage (refl {a = false}));
  kept = c.upload_sizes.ensures.kept;
  survives = c.upload_sizes.ensures.survives;
}

pub returns-in-Err : goal.returns-in-Err
returns-in-Err g c = record {
  found = λ l clean is. tt;
  settled = λ l clean is unspent. c.upload_sizes.ensures.settled l clean is (c.in-Err.ensures.storage unspent);
  kept = c.upload_sizes.ensures.kept;
  survives = c.upload_sizes.ensures.survives;
}
