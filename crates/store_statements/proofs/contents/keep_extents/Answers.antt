use Rattle.sqlite.specs.Held.{state}
use Rattle.store_statements.proofs.ContentRows.{inside_pack, content_added_if}
use Rattle.store_statements.proofs.contents.keep_extents.Goals as goal

pub returns : goal.returns
returns g c =
    let old = state g.S.Store c.args.tx.now.conn.now in
    record {
      content = λ file within is clean ready.
          content_added_if file old (state g.S.Store c.add_hashed.new.tx.conn.now) c.args.hash c.args.extents.now c.add_hashed.result ready is (c.add_hashed.ensures.added clean (inside_pack file old ready));
      kept = λ file clean ready. c.add_hashed.ensures.kept clean (inside_pack file old ready);
      same_reference = c.add_hashed.ensures.same_reference;
      survives = c.add_hashed.ensures.survives;
    }
