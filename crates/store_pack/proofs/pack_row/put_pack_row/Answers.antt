use Rattle.std.proofs.Common.{◌≡◌, ◌∙◌, ap, pos, to_z, w64}
use Rattle.sqlite.specs.Held.{state}
use Rattle.sqlite.specs.declared.types.Value.TheVariants.{Int}
use Rattle.store_contents.proofs.Reading.{on_done}
use Rattle.store_schema.proofs.Writes.{keeps_by_execute}
use Rattle.store_statements.proofs.Executed.{is_whole}
use Rattle.store_contents.specs.PlaceTexts.{pack_put}
use Rattle.store_pack.proofs.PackLemmas.{pack_came_by}
use Rattle.store_pack.proofs.pack_row.put_pack_row.Goals as goal

pub returns : goal.returns
returns g c =
    let old = state g.S.Store c.args.tx.now.conn.now in
    let new = state g.S.Store c.execute.new.self.conn.now in
    let whole : to_z w64 c.args.age ≡ pos c.args.age = is_whole c.args.age c.requires.fits in
    record {
      put = λ clean is none.
          on_done _ c.execute.result c.done.result c.done.ensures.ok
          (pack_came_by old new c.args.mark.now c.args.age c.execute.result is.holds none (rw (c.params-to_sql.ensures, c.params-to_sql-2.ensures ∙ ap Int whole) at (c.execute.ensures.runs clean is.inside)));
      kept = λ clean is. keeps_by_execute 0 pack_put _ old new c.execute.result (c.execute.ensures.runs clean is.inside);
      same_reference = c.execute.ensures.same_reference;
      survives = c.execute.ensures.survives;
    }
