use Rattle.std.proofs.Common.{◌∙◌, sym}
use Rattle.sqlite.specs.Held.{state}
use Rattle.store_statements.specs.Held.{world_in}
use Rattle.store_reads.proofs.ForetoldDeletions.{blob_goes, no_blob_goes}
use Rattle.store_reads.proofs.deletion_lookups.delete_blob_change.Goals as goal

pub returns-in-Ok-Some : goal.returns-in-Ok-Some
returns-in-Ok-Some g c = record {
  found = λ l clean is. blob_goes (world_in l (state g.S.Store c.args.conn.now)) c.args.repo.now c.args.digest.now c.in-Ok-Some.size (sym c.in-Ok-Some.field-0-is ∙ c.in-Ok-Some.ensures.found l clean is);
  settled = c.in-Ok-Some.ensures.settled;
  kept = c.blob_size.ensures.kept;
  survives = c.blob_size.ensures.survives;
}

pub returns-in-Ok-None : goal.returns-in-Ok-None
returns-in-Ok-None g c = record {
  found = λ l clean is. no_blob_goes (world_in l (state g.S.Store c.args.conn.now)) c.args.repo.now c.args.digest.now (sym c.in-Ok-None.field-0-is ∙ c.in-Ok-None.ensures.found l clean is);
  settled = c.in-Ok-None.ensures.settled;
  kept = c.blob_size.ensures.kept;
  survives = c.blob_size.ensures.survives;
}

pub returns-in-Err : goal.returns-in-Err
returns-in-Err g c = record {
  found = λ l clean is. tt;
  settled = λ l clean is unspent. c.in-Err.ensures.settled l clean is unspent;
  kept = c.blob_size.ensures.kept;
  survives = c.blob_size.ensures.survives;
}
