use Rattle.sqlite.specs.Held.{state}
use Rattle.sqlite.specs.Order.{column}
use Rattle.store_contents.specs.Layouts.{Layout, InTables}
use Rattle.store_statements.specs.Held.{held}
use Rattle.store_statements.proofs.ReadRows.{reads}
use Rattle.store_statements.proofs.Executed.{given}
use Rattle.std.proofs.Common.{◌≡◌, ◌∙◌, [], ◌∷◌, ap, filter, length, map, refl, rules, w64, SFits}
use Rattle.std.proofs.lemmas.Int.{to_z-of_z}
use Rattle.sqlite.specs.declared.types.Value.TheVariants.{Int}
use Rattle.sqlite.specs.Query.{limited, as_count}
use Rattle.sqlite_keyed.specs.Lists.{sort_by}
use Rattle.registry_model.specs.TagPage.{first_of, more_than}
use Rattle.store_schema.specs.Rows.{bytes_at}
use Rattle.store_statements.specs.ManifestShown.{by_second}
use Rattle.store_statements.specs.TagPages.{tag_behind, first_rows, are_more}
use Rattle.store_statements.proofs.PageRows.{page_shown, page_is}
use Rattle.store_statements.proofs.tag_pages.tags_page.Goals as goal

pub returns : goal.returns
returns g c =
    let old = state g.S.Store c.args.conn.now in
    let new = state g.S.Store c.query_all-shown.new.self in
    let range : SFits w64 c.rows_for.result = search rules in
    let it = λ (l : Layout).
    let xs = sort_by by_second (filter (tag_behind c.args.repo.now c.args.last.now) (held l old).tags) in
    reads g.S.Store c.args.conn.now c.query_all-shown.new.self c.checked.new.conn _ _ c.query_all-shown.result c.query_all-shown.ensures.ok c.query_all-shown.ensures.err
    (λ rows page. (page.tags.items ≡ map (λ row. bytes_at row 0) (first_rows c.args.n rows)) × (page.more ≡ are_more c.args.n (length rows))) c.page_of-found.result c.checked.result c.page_of-found.ensures c.checked.ensures.told {l = l}
    _ c.query_all-shown.ensures.survives (λ is. is.holds.known.tag_texts.page.plain) _ (given c.params-to_sql.ensures (given c.params-to_sql-2.ensures (given (c.params-to_sql-3.ensures ∙ ap Int (to_z-of_z w64 c.rows_for.result range)) refl)))
    (λ page. (page.tags.items ≡ first_of c.args.n (map (λ r. bytes_at r 2) xs)) × (page.more ≡ more_than c.args.n (map (λ r. bytes_at r 2) xs))) (λ rows. rows.items ≡ limited (as_count (Int c.rows_for.result)) (map (λ r. column r 2 ∷ []) xs))
    (page_shown old new c.args.repo.now c.args.last.now c.rows_for.result c.query_all-shown.result)
    (λ rows page q p. page_is c.args.n c.rows_for.result (λ r. column r 2 ∷ []) (λ row. bytes_at row 0) xs rows.items page.tags.items page.more c.rows_for.ensures q p.0 p.1) in
    record { found = λ l. (it l).0; settled = λ l. (it l).1; survives = (it InTables).2 }
