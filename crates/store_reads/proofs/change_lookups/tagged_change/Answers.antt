use Rattle.std.proofs.Common.{◌∙◌, sym}
use Rattle.sqlite.specs.Held.{state}
use Rattle.registry_model.specs.Ask.{text_in}
use Rattle.store_statements.specs.Held.{world_in}
use Rattle.store_reads.proofs.CleanBefore.{was_clean}
use Rattle.store_reads.proofs.Foretold.{manifest_kept, manifest_added}
use Rattle.store_reads.proofs.change_lookups.tagged_change.Goals as goal

pub returns-in-Ok-Some : goal.returns-in-Ok-Some
returns-in-Ok-Some g c = record {
  found = λ l tagged clean is.
      manifest_kept (world_in l (state g.S.Store c.args.conn.now)) c.args.repo.now c.args.digest.now c.args.bytes.now (text_in c.args.tag) c.args.tags
      (tagged (was_clean (state g.S.Store c.args.conn.now) (state g.S.Store c.manifest_size.new.conn) c.manifest_size.ensures.survives clean)) c.in-Ok-Some.field-0-0 (sym c.in-Ok-Some.field-0-is ∙ c.in-Ok-Some.ensures.found l clean is);
  settled = c.in-Ok-Some.ensures.settled;
  kept = c.manifest_size.ensures.kept;
  survives = c.manifest_size.ensures.survives;
}

pub returns-in-Ok-None : goal.returns-in-Ok-None
returns-in-Ok-None g c = record {
  found = λ l tagged clean is.
      manifest_added (world_in l (state g.S.Store c.args.conn.now)) c.args.repo.now c.args.digest.now c.args.bytes.now (text_in c.args.tag) c.args.tags
      (tagged (was_clean (state g.S.Store c.args.conn.now) (state g.S.Store c.manifest_size.new.conn) c.manifest_size.ensures.survives clean)) (sym c.in-Ok-None.field-0-is ∙ c.in-Ok-None.ensures.found l clean is);
  settled = c.in-Ok-None.ensures.settled;
  kept = c.manifest_size.ensures.kept;
  survives = c.manifest_size.ensures.survives;
}

pub returns-in-Err : goal.returns-in-Err
returns-in-Err g c = record {
  found = λ l tagged clean is. tt;
  settled = λ l clean is unspent. c.in-Err.ensures.settled l clean is unspent;
  kept = c.manifest_size.ensures.kept;
  survives = c.manifest_size.ensures.survives;
}
