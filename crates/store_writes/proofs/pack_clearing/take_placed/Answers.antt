use Rattle.sqlite.specs.Held.{state}
use Rattle.store_statements.proofs.ContentRows.{inside_pack}
use Rattle.store_writes.proofs.PlacesFreed.{placed_gone_if}
use Rattle.store_writes.proofs.pack_clearing.take_placed.Goals as goal

pub returns : goal.returns
returns g c =
    let old = state g.S.Store c.args.tx.now.conn.now in
    record {
      taken = λ file clean is.
          placed_gone_if file old (state g.S.Store c.remove_content.new.tx.conn.now) c.args.id c.remove_content.result is (c.remove_content.ensures.removed clean (inside_pack file old is));
      kept = λ file clean is. c.remove_content.ensures.kept clean (inside_pack file old is);
      same_reference = c.remove_content.ensures.same_reference;
      survives = c.remove_content.ensures.survives;
    }
