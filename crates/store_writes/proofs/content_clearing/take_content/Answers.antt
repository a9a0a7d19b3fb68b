use Rattle.sqlite.specs.Held.{state}
use Rattle.store_statements.proofs.ContentRows.{inside_of}
use Rattle.store_writes.proofs.ContentsFreed.{content_gone_if}
use Rattle.store_writes.proofs.content_clearing.take_content.Goals as goal

pub returns : goal.returns
returns g c = record {
  taken = λ clean is.
      let old = state g.S.Store c.args.tx.now.conn.now in
      content_gone_if old (state g.S.Store c.remove.new.tx.conn.now) c.args.id c.remove.result is (c.remove.ensures.removed clean (inside_of old is)) (c.remove.ensures.inside clean (inside_of old is));
  kept = λ clean is. c.remove.ensures.kept clean (inside_of (state g.S.Store c.args.tx.now.conn.now) is);
  same_reference = c.remove.ensures.same_reference;
  survives = c.remove.ensures.survives;
}
