use Rattle.std.proofs.Common.{◌≡◌, SFits, w64, rules, arith, sym, subst, true, ◌<◌, length, ◌∙◌}
use Rattle.std.specs.List.{list_any}
use Rattle.std.proofs.lemmas.Int.{to_z-of_z}
use Rattle.store_contents.specs.Search.{shows_bytes, shows_content}
use Rattle.store_contents.proofs.SearchLemmas.{shows_it}
use Rattle.store_contents.proofs.search.id_among.Goals as goal

pub returns-then-shows-clause-some : goal.returns-then-shows-clause-some
returns-then-shows-clause-some c =
    let low : c.loop-row.row-index < length c.args.rows.now = omega arith in
    let range : SFits w64 c.in_ok-id.id = search rules in
    let has : shows_bytes c.args.bytes.now c.row-item.result ≡ true = sym c.shows.ensures ∙ c.if-shows.true in
    subst (λ id. list_any (shows_content id c.args.bytes.now) c.args.rows.now ≡ true) (sym (to_z-of_z w64 c.in_ok-id.id range))
    (shows_it c.args.rows.now c.args.bytes.now c.loop-row.row-index c.row-item.result c.in_ok-id.id low c.row-item.is c.in_ok-id.ensures.ok.1 has)
