use Rattle.sqlite.specs.Held.{state}
use Rattle.store_statements.proofs.Checks.{survives_here}
use Rattle.store_reads.proofs.ReadSequences.{stays_here}
use Rattle.store_statements.proofs.Crashes.{kept_stayed}
use Rattle.std.proofs.Common.{refl}
use Rattle.store_reads.proofs.deletion_lookups.delete_blobs_change.Goals as goal

pub ascending_blobs_change-requires : goal.ascending_blobs_change-requires
ascending_blobs_change-requires g c = c.ascend.ensures.0 c.if-ascend.true

pub returns-then-ascend : goal.returns-then-ascend
returns-then-ascend g c = record {
  found = c.ascending_blobs_change.ensures.found;
  settled = c.ascending_blobs_change.ensures.settled;
  kept = c.ascending_blobs_change.ensures.kept;
  survives = c.ascending_blobs_change.ensures.survives;
}

pub returns-else-ascend : goal.returns-else-ascend
returns-else-ascend g c = record {
  found = λ l clean is. tt;
  settled = λ l clean is unspent. stays_here (state g.S.Store c.args.conn.now) is;
  kept = λ l clean is. kept_stayed g.S.Store g.met.S.Store.settled c.args.conn.now c.args.conn.now is (is, refl);
  survives = survives_here (state g.S.Store c.args.conn.now);
}
