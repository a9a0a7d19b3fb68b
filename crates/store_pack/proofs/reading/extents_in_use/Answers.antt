use Rattle.std.proofs.Common.{◌≡◌, map, refl}
use Rattle.std.specs.List.Sorted.{IsPermutation}
use Rattle.sqlite.specs.Held.{state}
use Rattle.store_statements.proofs.SelectedRows.{lists_of}
use Rattle.store_contents.specs.Places.{place_rows, runs_of}
use Rattle.store_places.specs.Places.{runs_at}
use Rattle.store_pack.specs.Reads.{run_shown}
use Rattle.store_pack.proofs.ReadLemmas.{reads}
use Rattle.store_pack.proofs.ExtentRows.{all_rows, place_shown}
use Rattle.store_pack.proofs.reading.extents_in_use.Goals as goal

pub returns : goal.returns
returns g c =
    let old = state g.S.Store c.args.conn.now in
    let mid = state g.S.Store c.query_all-shown.new.self in
    let it = reads g.S.Store g.met.S.Store.settled c.args.conn.now c.query_all-shown.new.self c.checked.new.conn _ _ c.query_all-shown.result c.query_all-shown.ensures.ok c.query_all-shown.ensures.err c.query_all-shown.ensures.survives (λ is. is.known.place_texts.list_all.plain)
    (λ rows es. runs_at es.items ≡ map run_shown rows) c.all_extents-found.result c.checked.result c.all_extents-found.ensures c.checked.ensures.told
    _ refl
    (λ db es. IsPermutation (runs_of (place_rows db)) (runs_at es.items)) (λ rows. IsPermutation (map place_shown (place_rows old.now)) rows.items)
    (all_rows old mid c.query_all-shown.result)
    (λ rows es q p. lists_of run_shown place_shown (place_rows old.now) rows.items (runs_at es.items) q p) in
    record { found = it.found; same = it.same; settled = it.settled; kept = it.kept; survives = it.survives; lasts = it.lasts }
