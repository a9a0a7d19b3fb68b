use Rattle.std.proofs.Common.{◌≡◌, ◌∙◌, ap, pos, to_z, w64}
use Rattle.sqlite.specs.Held.{state}
use Rattle.sqlite.specs.declared.types.Value.TheVariants.{Int}
use Rattle.store_contents.proofs.Reading.{on_done}
use Rattle.store_schema.proofs.Writes.{keeps_by_execute}
use Rattle.store_statements.proofs.Executed.{is_whole}
use Rattle.store_contents.specs.PlaceTexts.{pack_set_age}
use Rattle.store_pack.proofs.PackLemmas.{age_set_by}
use Rattle.store_pack.proofs.pack_row.set_age.Goals as goal

pub returns : goal.returns
returns g c =
    let old = state g.S.Store c.args.tx.now.conn.now in
    let new = state g.S.Store c.execute.new.self.conn.now in
    let whole : to_z w64 c.args.age ≡ pos c.args.age = is_whole c.args.age c.requires.fits in
    record {
      set = λ clean is mark was says.
          on_done _ c.execute.result c.done.result c.done.ensures.ok
          (age_set_by old new mark was c.args.age c.execute.result is.holds says (rw (c.params-to_sql.ensures ∙ ap Int whole) at (c.execute.ensures.runs clean is.inside)));
      kept = λ clean is. keeps_by_execute 0 pack_set_age _ old new c.execute.result (c.execute.ensures.runs clean is.inside);
      same_reference = c.execute.ensures.same_reference;
      survives = c.execute.ensures.survives;
    }
