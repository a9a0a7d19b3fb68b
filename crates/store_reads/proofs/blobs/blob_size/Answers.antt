use Rattle.std.proofs.Common.{None, Some}
use Rattle.sqlite.specs.Held.{state}
use Rattle.store_statements.specs.Held.{held}
use Rattle.store_statements.proofs.Transactions.{registry}
use Rattle.store_reads.proofs.WorldReads.{blob_size_by}
use Rattle.store_reads.proofs.blobs.blob_size.Goals as goal

pub returns-in-Ok-Some : goal.returns-in-Ok-Some
returns-in-Ok-Some g c = record {
  found = λ l clean is.
      blob_size_by (held l (state g.S.Store c.args.conn.now)) c.args.repo.now c.args.digest.now (registry (state g.S.Store c.args.conn.now) is) (Some c.in-Ok-Some.link)
      (rw (c.in-Ok-Some.field-0-is, c.as_str.ensures.text, c.as_str-2.ensures.text) at (c.in-Ok-Some.ensures.found l clean is));
  settled = c.in-Ok-Some.ensures.settled;
  kept = c.find_blob_link.ensures.kept;
  survives = c.find_blob_link.ensures.survives;
}

pub returns-in-Ok-None : goal.returns-in-Ok-None
returns-in-Ok-None g c = record {
  found = λ l clean is.
      blob_size_by (held l (state g.S.Store c.args.conn.now)) c.args.repo.now c.args.digest.now (registry (state g.S.Store c.args.conn.now) is) None
      (rw (c.in-Ok-None.field-0-is, c.as_str.ensures.text, c.as_str-2.ensures.text) at (c.in-Ok-None.ensures.found l clean is));
  settled = c.in-Ok-None.ensures.settled;
  kept = c.find_blob_link.ensures.kept;
  survives = c.find_blob_link.ensures.survives;
}

pub returns-in-Err : goal.returns-in-Err
returns-in-Err g c = record {
  found = λ l clean is. tt;
  settled = λ l clean is unspent. c.in-Err.ensures.settled l clean is unspent;
  kept = c.find_blob_link.ensures.kept;
  survives = c.find_blob_link.ensures.survives;
}
