use Rattle.std.proofs.Common.{◌≡◌, ◌∙◌, map, ap, refl, rules, w64, SFits}
use Rattle.std.proofs.lemmas.Int.{to_z-of_z}
use Rattle.sqlite.specs.Held.{state}
use Rattle.sqlite.specs.declared.types.Value.TheVariants.{Int}
use Rattle.store_statements.proofs.Executed.{given}
use Rattle.store_statements.proofs.SelectedRows.{mapped}
use Rattle.store_contents.specs.Places.{place_rows, places_of, runs_of}
use Rattle.store_places.specs.Places.{runs_at}
use Rattle.store_pack.specs.Reads.{run_shown}
use Rattle.store_pack.proofs.ReadLemmas.{reads}
use Rattle.store_pack.proofs.ExtentRows.{list_rows, place_shown}
use Rattle.store_pack.proofs.reading.extents_in_order.Goals as goal

pub returns : goal.returns
returns g c =
    let range : SFits w64 c.get.result = search rules in
    let old = state g.S.Store c.args.conn.now in
    let mid = state g.S.Store c.query_all-shown.new.self in
    let some = places_of (place_rows old.now) c.args.id.id in
    reads g.S.Store g.met.S.Store.settled c.args.conn.now c.query_all-shown.new.self c.checked.new.conn _ _ c.query_all-shown.result c.query_all-shown.ensures.ok c.query_all-shown.ensures.err c.query_all-shown.ensures.survives (λ is. is.known.place_texts.list.plain)
    (λ rows es. runs_at es.items ≡ map run_shown rows) c.all_extents-found.result c.checked.result c.all_extents-found.ensures c.checked.ensures.told
    _ (given (c.params-to_sql.ensures ∙ ap Int (to_z-of_z w64 c.get.result range ∙ c.get.ensures)) refl)
    (λ db es. runs_at es.items ≡ runs_of (places_of (place_rows db) c.args.id.id)) (λ rows. rows.items ≡ map place_shown some)
    (list_rows c.args.id.id old mid c.query_all-shown.result)
    (λ rows es q p. mapped run_shown place_shown some rows.items (runs_at es.items) q p)
