use Rattle.std.proofs.Common.{◌∙◌, ap, rules, w64, SFits}
use Rattle.std.proofs.lemmas.Int.{to_z-of_z}
use Rattle.sqlite.specs.Held.{state}
use Rattle.sqlite.specs.declared.types.Value.TheVariants.{Int}
use Rattle.store_contents.proofs.Reading.{on_done}
use Rattle.store_schema.proofs.Writes.{keeps_by_execute}
use Rattle.store_contents.specs.PlaceTexts.{place_remove}
use Rattle.store_places.proofs.RemoveLemmas.{places_removed_by}
use Rattle.store_places.proofs.removal.remove_places.Goals as goal

pub returns : goal.returns
returns g c =
    let range : SFits w64 c.get.result = search rules in
    let old = state g.S.Store c.args.tx.now.conn.now in
    let new = state g.S.Store c.execute.new.self.conn.now in
    record {
      removed = λ clean is.
          on_done _ c.execute.result c.done.result c.done.ensures.ok
          (places_removed_by old new c.args.id.id c.execute.result is.holds (rw (c.params-to_sql.ensures ∙ ap Int (to_z-of_z w64 c.get.result range ∙ c.get.ensures)) at (c.execute.ensures.runs clean is.inside)));
      kept = λ clean is. keeps_by_execute 0 place_remove _ old new c.execute.result (c.execute.ensures.runs clean is.inside);
      same_reference = c.execute.ensures.same_reference;
      survives = c.execute.ensures.survives;
    }
