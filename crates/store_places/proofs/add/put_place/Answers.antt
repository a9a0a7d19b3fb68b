use Rattle.std.proofs.Common.{◌≡◌, ◌∙◌, ap, arith, rules, pos, to_z, w64, SFits}
use Rattle.std.proofs.lemmas.Int.{ints, to_z-of_z}
use Rattle.sqlite.specs.Held.{state}
use Rattle.sqlite.specs.declared.types.Value.TheVariants.{Int}
use Rattle.store_contents.proofs.Reading.{on_done}
use Rattle.store_schema.proofs.Writes.{keeps_by_execute}
use Rattle.store_contents.specs.PlaceTexts.{place_add}
use Rattle.registry_pack.specs.Extents.{starts_at, size_of}
use Rattle.store_places.proofs.AddLemmas.{place_put_by}
use Rattle.store_places.proofs.add.put_place.Goals as goal

pub returns : goal.returns
returns g c =
    let range : SFits w64 c.get.result = search rules in
    let first : to_z w64 c.args.start ≡ pos c.args.start = omega (arith, ints, c.requires.fits) in
    let size : to_z w64 c.size.result ≡ pos (size_of c.args.extent) = omega (arith, ints, c.size.ensures.size, c.size.ensures.fits) in
    let at : to_z w64 c.at.result ≡ pos (starts_at c.args.extent) = omega (arith, ints, c.at.ensures.at, c.at.ensures.fits) in
    let old = state g.S.Store c.args.tx.now.conn.now in
    let new = state g.S.Store c.execute.new.self.conn.now in
    record {
      put = λ clean is there before.
          on_done _ c.execute.result c.done.result c.done.ensures.ok
          (place_put_by old new c.args.id.id c.args.start (starts_at c.args.extent) (size_of c.args.extent) c.execute.result is.holds there before
          (rw (c.params-to_sql.ensures ∙ ap Int (to_z-of_z w64 c.get.result range ∙ c.get.ensures), c.params-to_sql-2.ensures ∙ ap Int first, c.params-to_sql-3.ensures ∙ ap Int size, c.params-to_sql-4.ensures ∙ ap Int at) at (c.execute.ensures.runs clean is.inside)));
      kept = λ clean is. keeps_by_execute 0 place_add _ old new c.execute.result (c.execute.ensures.runs clean is.inside);
      same_reference = c.execute.ensures.same_reference;
      survives = c.execute.ensures.survives;
    }
