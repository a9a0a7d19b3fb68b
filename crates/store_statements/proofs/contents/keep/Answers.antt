use Rattle.sqlite.specs.Held.{state}
use Rattle.store_statements.proofs.ContentRows.{inside_of, content_kept_if}
use Rattle.store_statements.proofs.contents.keep.Goals as goal

pub returns : goal.returns
returns g c =
    let old = state g.S.Store c.args.tx.now.conn.now in
    record {
      content = λ clean is.
          content_kept_if old (state g.S.Store c.find_or_add.new.tx.conn.now) c.args.bytes.now c.find_or_add.result is
          (c.find_or_add.ensures.inside clean (inside_of old is)) (c.find_or_add.ensures.content clean (inside_of old is));
      kept = λ clean is. c.find_or_add.ensures.kept clean (inside_of old is);
      same_reference = c.find_or_add.ensures.same_reference;
      survives = c.find_or_add.ensures.survives;
    }
