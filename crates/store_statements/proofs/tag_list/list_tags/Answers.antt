use Rattle.sqlite.specs.Held.{state}
use Rattle.sqlite.specs.Order.{column}
use Rattle.store_contents.specs.Layouts.{Layout, InTables}
use Rattle.store_statements.specs.Held.{held}
use Rattle.store_statements.proofs.ReadRows.{reads}
use Rattle.store_statements.proofs.Executed.{given}
use Rattle.std.proofs.Common.{◌≡◌, [], ◌∷◌, filter, map, refl}
use Rattle.store_statements.proofs.SelectedRows.{mapped}
use Rattle.sqlite_keyed.specs.Lists.{sort_by}
use Rattle.store_statements.specs.Keys.{of_first}
use Rattle.store_statements.specs.ManifestShown.{by_second, tag_row, tag_shown}
use Rattle.store_statements.proofs.TagReads.{shows_tags}
use Rattle.store_statements.proofs.tag_list.list_tags.Goals as goal

pub returns : goal.returns
returns g c =
    let old = state g.S.Store c.args.conn.now in
    let new = state g.S.Store c.query_all-shown.new.self in
    let it = λ (l : Layout).
    let xs = sort_by by_second (filter (of_first c.args.repo.now) (held l old).tags) in
    reads g.S.Store c.args.conn.now c.query_all-shown.new.self c.checked.new.conn _ _ c.query_all-shown.result c.query_all-shown.ensures.ok c.query_all-shown.ensures.err
    (λ rows tags. tags.items ≡ map tag_shown rows) c.all-found.result c.checked.result c.all-found.ensures c.checked.ensures.told {l = l}
    _ c.query_all-shown.ensures.survives (λ is. is.holds.known.tag_texts.pairs.plain) _ (given c.params-to_sql.ensures refl)
    (λ v. v.items ≡ map tag_row xs) (λ rows. rows.items ≡ map (λ r. column r 2 ∷ column r 3 ∷ []) xs)
    (shows_tags old new c.args.repo.now c.query_all-shown.result)
    (λ rows v q p. mapped tag_shown (λ r. column r 2 ∷ column r 3 ∷ []) xs rows.items v.items q p) in
    record { found = λ l. (it l).0; settled = λ l. (it l).1; survives = (it InTables).2 }
