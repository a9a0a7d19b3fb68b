use Rattle.std.proofs.Common.{sym}
use Rattle.sqlite.specs.Held.{state}
use Rattle.store_statements.proofs.TagWorlds.{tag_at_found}
use Rattle.store_statements.specs.Held.{held}
use Rattle.store_statements.proofs.Transactions.{registry}
use Rattle.store_reads.proofs.WorldReads.{told}
use Rattle.store_reads.proofs.tags.tag.Goals as goal

pub returns : goal.returns
returns g c = record {
  found = λ l clean is.
      told c.find_tag.result _ _ (sym (tag_at_found (held l (state g.S.Store c.args.conn.now)) c.args.repo.now c.args.tag.now (registry (state g.S.Store c.args.conn.now) is)))
      (rw (c.as_str.ensures.text, c.as_str-2.ensures.text) at (c.find_tag.ensures.found l clean is));
  settled = c.find_tag.ensures.settled;
  kept = c.find_tag.ensures.kept;
  survives = c.find_tag.ensures.survives;
}
