use Rattle.std.proofs.Common.{◌∙◌, sym}
use Rattle.sqlite.specs.Held.{state}
use Rattle.store_statements.specs.Held.{world_in}
use Rattle.store_reads.proofs.ForetoldDeletions.{tag_goes, no_tag_goes}
use Rattle.store_reads.proofs.deletion_lookups.delete_tag_change.Goals as goal

pub returns-in-Ok-Some : goal.returns-in-Ok-Some
returns-in-Ok-Some g c = record {
  found = λ l clean is. tag_goes (world_in l (state g.S.Store c.args.conn.now)) c.args.repo.now c.args.tag.now c.in-Ok-Some.field-0-0 (sym c.in-Ok-Some.field-0-is ∙ c.in-Ok-Some.ensures.found l clean is);
  settled = c.in-Ok-Some.ensures.settled;
  kept = c.tag.ensures.kept;
  survives = c.tag.ensures.survives;
}

pub returns-in-Ok-None : goal.returns-in-Ok-None
returns-in-Ok-None g c = record {
  found = λ l clean is. no_tag_goes (world_in l (state g.S.Store c.args.conn.now)) c.args.repo.now c.args.tag.now (sym c.in-Ok-None.field-0-is ∙ c.in-Ok-None.ensures.found l clean is);
  settled = c.in-Ok-None.ensures.settled;
  kept = c.tag.ensures.kept;
  survives = c.tag.ensures.survives;
}

pub returns : goal.returns
returns g c = record {
  found = λ l clean is. tt;
  settled = λ l clean is unspent. c.in-Err.ensures.settled l clean is unspent;
  kept = c.tag.ensures.kept;
  survives = c.tag.ensures.survives;
}
