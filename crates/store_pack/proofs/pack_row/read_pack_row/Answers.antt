use Rattle.std.proofs.Common.{◌≡◌, [], map, refl}
use Rattle.std.specs.Prelude.{MatchOption}
use Rattle.std.specs.List.Sorted.{IsPermutation}
use Rattle.sqlite.specs.Held.{state}
use Rattle.store_contents.specs.Places.{pack_rows}
use Rattle.store_pack.specs.Pack.{PackSays, ShowsOnly}
use Rattle.store_pack.proofs.ReadLemmas.{reads}
use Rattle.store_pack.proofs.PackLemmas.{pack_said, pack_shown, pack_shows}
use Rattle.store_pack.proofs.pack_row.read_pack_row.Goals as goal

pub returns : goal.returns
returns g c =
    let old = state g.S.Store c.args.conn.now in
    let mid = state g.S.Store c.query_all-shown.new.self in
    let it = reads g.S.Store g.met.S.Store.settled c.args.conn.now c.query_all-shown.new.self c.checked.new.conn _ _ c.query_all-shown.result c.query_all-shown.ensures.ok c.query_all-shown.ensures.err c.query_all-shown.ensures.survives (λ is. is.known.pack_texts.read.plain)
    ShowsOnly c.only_row-found.result c.checked.result c.only_row-found.ensures c.checked.ensures.told
    _ refl
    (λ db o. MatchOption o (pack_rows db ≡ []) (λ said. PackSays db said.mark said.age)) (λ rows. IsPermutation (map pack_shown (pack_rows old.now)) rows.items)
    (pack_shows old mid c.query_all-shown.result)
    (λ rows o q p. pack_said old.now rows.items o q p) in
    record { found = it.found; same = it.same; settled = it.settled; kept = it.kept; survives = it.survives; lasts = it.lasts }
