use Rattle.sqlite.specs.Held.{state}
use Rattle.sqlite.specs.Order.{column}
use Rattle.store_contents.specs.Layouts.{Layout, InTables}
use Rattle.store_statements.specs.Held.{held}
use Rattle.store_statements.proofs.ReadRows.{reads, reads_kept}
use Rattle.store_statements.proofs.Executed.{given}
use Rattle.std.proofs.Common.{◌≡◌, ◌∙◌, [], ◌∷◌, filter, length, map, refl}
use Rattle.std.specs.List.Sorted.{IsPermutation}
use Rattle.store_statements.specs.Steps.{names_digest}
use Rattle.store_statements.proofs.SelectedRows.{counted}
use Rattle.store_statements.proofs.TagReads.{named_shown}
use Rattle.store_statements.proofs.tags.count_tags_named.Goals as goal

pub returns : goal.returns
returns g c =
    let old = state g.S.Store c.args.conn.now in
    let new = state g.S.Store c.query_all-shown.new.self in
    let it = λ (l : Layout).
    let xs = filter (names_digest c.args.repo.now c.args.digest.now) (held l old).tags in
    reads g.S.Store c.args.conn.now c.query_all-shown.new.self c.checked.new.conn _ _ c.query_all-shown.result c.query_all-shown.ensures.ok c.query_all-shown.ensures.err
    (λ rows n. n ≡ length rows) c.count_rows-found.result c.checked.result c.count_rows-found.ensures c.checked.ensures.told {l = l}
    _ c.query_all-shown.ensures.survives (λ is. is.holds.known.tag_texts.named.plain) _ (given c.params-to_sql.ensures (given c.params-to_sql-2.ensures refl))
    (λ n. n ≡ length xs) (λ rows. IsPermutation (map (λ r. column r 2 ∷ []) xs) rows.items)
    (named_shown old new c.args.repo.now c.args.digest.now c.query_all-shown.result)
    (λ rows n q p. p ∙ counted (λ r. column r 2 ∷ []) xs rows.items q) in
    record {
      found = λ l. (it l).0;
      settled = λ l. (it l).1;
      kept = λ l. reads_kept g.S.Store c.args.conn.now c.query_all-shown.new.self c.checked.new.conn _ _ c.query_all-shown.result c.query_all-shown.ensures.ok c.query_all-shown.ensures.err (λ rows n. n ≡ length rows) c.count_rows-found.result c.checked.result c.count_rows-found.ensures c.checked.ensures.told {l = l} g.met.S.Store.settled c.query_all-shown.ensures.survives (λ is. is.holds.known.tag_texts.named.plain);
      survives = (it InTables).2;
    }
