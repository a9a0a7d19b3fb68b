use Rattle.std.proofs.Common.{◌∙◌, sym}
use Rattle.sqlite.specs.Held.{state}
use Rattle.store_statements.specs.Held.{world_in}
use Rattle.store_reads.proofs.CleanBefore.{was_clean}
use Rattle.store_reads.proofs.ForetoldDeletions.{manifest_goes, no_manifest_goes}
use Rattle.store_reads.proofs.deletion_lookups.named_manifest_change.Goals as goal

pub returns-in-Ok-Some : goal.returns-in-Ok-Some
returns-in-Ok-Some g c = record {
  found = λ l naming clean is.
      manifest_goes (world_in l (state g.S.Store c.args.conn.now)) c.args.repo.now c.args.digest.now c.args.tags_gone
      (naming (was_clean (state g.S.Store c.args.conn.now) (state g.S.Store c.manifest_size.new.conn) c.manifest_size.ensures.survives clean)) c.in-Ok-Some.field-0-0-0 c.in-Ok-Some.size (sym c.in-Ok-Some.field-0-is ∙ c.in-Ok-Some.ensures.found l clean is);
  settled = c.in-Ok-Some.ensures.settled;
  kept = c.manifest_size.ensures.kept;
  survives = c.manifest_size.ensures.survives;
}

pub returns-in-Ok-None : goal.returns-in-Ok-None
returns-in-Ok-None g c = record {
  found = λ l naming clean is.
      no_manifest_goes (world_in l (state g.S.Store c.args.conn.now)) c.args.repo.now c.args.digest.now c.args.tags_gone
      (naming (was_clean (state g.S.Store c.args.conn.now) (state g.S.Store c.manifest_size.new.conn) c.manifest_size.ensures.survives clean)) (sym c.in-Ok-None.field-0-is ∙ c.in-Ok-None.ensures.found l clean is);
  settled = c.in-Ok-None.ensures.settled;
  kept = c.manifest_size.ensures.kept;
  survives = c.manifest_size.ensures.survives;
}

pub returns-in-Err : goal.returns-in-Err
returns-in-Err g c = record {
  found = λ l naming clean is. tt;
  settled = λ l clean is unspent. c.in-Err.ensures.settled l clean is unspent;
  kept = c.manifest_size.ensures.kept;
  survives = c.manifest_size.ensures.survives;
}
