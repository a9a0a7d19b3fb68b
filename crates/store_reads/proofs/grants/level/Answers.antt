use Rattle.std.proofs.Common.{sym}
use Rattle.sqlite.specs.Held.{state}
use Rattle.store_statements.proofs.GrantWorlds.{level_found}
use Rattle.store_statements.specs.Held.{held}
use Rattle.store_reads.proofs.WorldReads.{told}
use Rattle.store_reads.proofs.grants.level.Goals as goal

pub returns : goal.returns
returns g c = record {
  found = λ l clean is.
      told c.find_level.result _ _ (sym (level_found (held l (state g.S.Store c.args.conn.now)) c.args.token.now c.args.repo.now)) (rw (c.as_str.ensures.text, c.as_str-2.ensures.text) at (c.find_level.ensures.found l clean is));
  settled = c.find_level.ensures.settled;
  survives = c.find_level.ensures.survives;
}
