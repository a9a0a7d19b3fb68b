use Rattle.sqlite.specs.Held.{state}
use Rattle.sqlite.specs.Order.{column}
use Rattle.store_contents.specs.Layouts.{Layout, InTables}
use Rattle.store_statements.specs.Held.{held}
use Rattle.store_statements.proofs.ReadRows.{reads}
use Rattle.store_statements.proofs.Executed.{given}
use Rattle.std.proofs.Common.{◌≡◌, ◌∙◌, [], ◌∷◌, filter, length, map, refl}
use Rattle.std.specs.List.Sorted.{IsPermutation}
use Rattle.store_statements.specs.Keys.{of_first}
use Rattle.store_statements.proofs.SelectedRows.{counted}
use Rattle.store_statements.proofs.UploadRows.{size_rows}
use Rattle.store_statements.proofs.uploads.count_uploads.Goals as goal

pub returns : goal.returns
returns g c =
    let old = state g.S.Store c.args.conn.now in
    let new = state g.S.Store c.query_all-shown.new.self in
    let it = λ (l : Layout).
    let xs = filter (of_first c.args.repo.now) (held l old).uploads in
    reads g.S.Store c.args.conn.now c.query_all-shown.new.self c.checked.new.conn _ _ c.query_all-shown.result c.query_all-shown.ensures.ok c.query_all-shown.ensures.err
    (λ rows n. n ≡ length rows) c.count_rows-found.result c.checked.result c.count_rows-found.ensures c.checked.ensures.told {l = l}
    _ c.query_all-shown.ensures.survives (λ is. is.holds.known.upload_texts.sizes.plain) _ (given c.params-to_sql.ensures refl)
    (λ n. n ≡ length xs) (λ rows. IsPermutation (map (λ r. column r 3 ∷ []) xs) rows.items)
    (size_rows c.args.repo.now old new c.query_all-shown.result)
    (λ rows n q p. p ∙ counted (λ r. column r 3 ∷ []) xs rows.items q) in
    record { found = λ l. (it l).0; settled = λ l. (it l).1; survives = (it InTables).2 }
