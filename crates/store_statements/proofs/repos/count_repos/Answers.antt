use Rattle.sqlite.specs.Held.{state}
use Rattle.sqlite.specs.Order.{column}
use Rattle.store_contents.specs.Layouts.{Layout, InTables}
use Rattle.store_statements.specs.Held.{held}
use Rattle.store_statements.proofs.ReadRows.{reads}
use Rattle.std.proofs.Common.{◌≡◌, ◌∙◌, [], ◌∷◌, length, map, refl}
use Rattle.sqlite_keyed.specs.Lists.{sort_by}
use Rattle.store_statements.specs.Shown.{by_name}
use Rattle.store_statements.proofs.RepoReads.{shows_names, as_many_names}
use Rattle.store_statements.proofs.repos.count_repos.Goals as goal

pub returns : goal.returns
returns g c =
    let old = state g.S.Store c.args.conn.now in
    let new = state g.S.Store c.query_all-shown.new.self in
    let it = λ (l : Layout).
    reads g.S.Store c.args.conn.now c.query_all-shown.new.self c.checked.new.conn _ _ c.query_all-shown.result c.query_all-shown.ensures.ok c.query_all-shown.ensures.err
    (λ rows n. n ≡ length rows) c.count_rows-found.result c.checked.result c.count_rows-found.ensures c.checked.ensures.told {l = l}
    _ c.query_all-shown.ensures.survives (λ is. is.holds.known.repo_texts.list.plain) _ refl
    (λ n. n ≡ length (held l old).repos) (λ rows. rows.items ≡ map (λ r. column r 1 ∷ []) (sort_by by_name (held l old).repos))
    (shows_names old new c.query_all-shown.result)
    (λ rows n q p. p ∙ as_many_names (held l old).repos rows.items q) in
    record { found = λ l. (it l).0; settled = λ l. (it l).1; survives = (it InTables).2 }
