use Rattle.sqlite.specs.Held.{state}
use Rattle.store_contents.specs.Layouts.{Layout, InTables}
use Rattle.store_statements.specs.Held.{held}
use Rattle.store_statements.proofs.ReadRows.{reads}
use Rattle.store_statements.proofs.Executed.{given}
use Rattle.std.proofs.Common.{◌≡◌, ◌∙◌, filter, length, not, refl}
use Rattle.std.specs.Prelude.{◌==◌, nat_lt}
use Rattle.store_statements.specs.Keys.{of_first}
use Rattle.store_statements.proofs.GrantReads.{OneKnown, shows_known, known_by_rows}
use Rattle.store_statements.proofs.grants.is_known.Goals as goal

pub returns : goal.returns
returns g c =
    let old = state g.S.Store c.args.conn.now in
    let new = state g.S.Store c.query_all-shown.new.self in
    let it = λ (l : Layout).
    let xs = filter (of_first c.args.token.now) (held l old).grants in
    reads g.S.Store c.args.conn.now c.query_all-shown.new.self c.checked.new.conn _ _ c.query_all-shown.result c.query_all-shown.ensures.ok c.query_all-shown.ensures.err
    (λ rows any. any ≡ not (length rows == 0)) c.any_row-found.result c.checked.result c.any_row-found.ensures c.checked.ensures.told {l = l}
    _ c.query_all-shown.ensures.survives (λ is. is.holds.known.grant_texts.known.plain) _ (given c.params-to_sql.ensures refl)
    (λ known. known ≡ nat_lt 0 (length xs)) (λ rows. OneKnown l c.args.token.now old rows.items)
    (shows_known c.args.token.now old new c.query_all-shown.result)
    (λ rows v q p. p ∙ known_by_rows l c.args.token.now old rows.items q) in
    record { found = λ l. (it l).0; settled = λ l. (it l).1; survives = (it InTables).2 }
