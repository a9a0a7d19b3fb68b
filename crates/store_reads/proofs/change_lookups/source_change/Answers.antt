use Rattle.std.proofs.Common.{◌∙◌, sym}
use Rattle.sqlite.specs.Held.{state}
use Rattle.registry_model.specs.Lookups.{blob_at}
use Rattle.store_statements.specs.Held.{world_in}
use Rattle.store_reads.proofs.CleanBefore.{was_clean}
use Rattle.store_reads.proofs.Foretold.{mount_added}
use Rattle.store_reads.proofs.change_lookups.source_change.Goals as goal

pub returns-in-Ok-Some : goal.returns-in-Ok-Some
returns-in-Ok-Some g c = record {
  found = λ l fresh clean is.
      let w = world_in l (state g.S.Store c.args.conn.now) in
      mount_added w c.args.to.now c.args.digest.now (blob_at w c.args.from.now c.args.digest.now) c.in-Ok-Some.size
      (sym (fresh (was_clean (state g.S.Store c.args.conn.now) (state g.S.Store c.blob_size.new.conn) c.blob_size.ensures.survives clean))) (sym c.in-Ok-Some.field-0-is ∙ c.in-Ok-Some.ensures.found l clean is);
  settled = c.in-Ok-Some.ensures.settled;
  kept = c.blob_size.ensures.kept;
  survives = c.blob_size.ensures.survives;
}

pub returns-in-Ok-None : goal.returns-in-Ok-None
returns-in-Ok-None g c = record {
  found = λ l fresh clean is. tt;
  settled = c.in-Ok-None.ensures.settled;
  kept = c.blob_size.ensures.kept;
  survives = c.blob_size.ensures.survives;
}

pub returns-in-Err : goal.returns-in-Err
returns-in-Err g c = record {
  found = λ l fresh clean is. tt;
  settled = λ l clean is unspent. c.in-Err.ensures.settled l clean is unspent;
  kept = c.blob_size.ensures.kept;
  survives = c.blob_size.ensures.survives;
}
