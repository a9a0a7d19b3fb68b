use Rattle.sqlite.specs.Held.{state}
use Rattle.sqlite.specs.Order.{column}
use Rattle.store_contents.specs.Layouts.{Layout, InTables}
use Rattle.store_statements.specs.Held.{held}
use Rattle.store_statements.proofs.ReadRows.{reads}
use Rattle.std.proofs.Common.{◌≡◌, [], ◌∷◌, map, refl}
use Rattle.store_statements.proofs.SelectedRows.{mapped}
use Rattle.sqlite_keyed.specs.Lists.{sort_by}
use Rattle.store_statements.specs.Shown.{by_repo_and_token, grant_row, grant_shown}
use Rattle.store_statements.proofs.GrantList.{shows_grants}
use Rattle.store_statements.proofs.grant_list.list_grants.Goals as goal

pub returns : goal.returns
returns g c =
    let old = state g.S.Store c.args.conn.now in
    let new = state g.S.Store c.query_all-shown.new.self in
    let it = λ (l : Layout).
    let xs = sort_by by_repo_and_token (held l old).grants in
    reads g.S.Store c.args.conn.now c.query_all-shown.new.self c.checked.new.conn _ _ c.query_all-shown.result c.query_all-shown.ensures.ok c.query_all-shown.ensures.err
    (λ rows grants. grants.items ≡ map grant_shown rows) c.all-found.result c.checked.result c.all-found.ensures c.checked.ensures.told {l = l}
    _ c.query_all-shown.ensures.survives (λ is. is.holds.known.grant_texts.list_all.plain) _ refl
    (λ v. v.items ≡ map grant_row xs) (λ rows. rows.items ≡ map (λ r. column r 2 ∷ column r 1 ∷ column r 3 ∷ []) xs)
    (shows_grants old new c.query_all-shown.result)
    (λ rows v q p. mapped grant_shown (λ r. column r 2 ∷ column r 1 ∷ column r 3 ∷ []) xs rows.items v.items q p) in
    record { found = λ l. (it l).0; settled = λ l. (it l).1; survives = (it InTables).2 }
