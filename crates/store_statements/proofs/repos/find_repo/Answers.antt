use Rattle.sqlite.specs.Held.{state}
use Rattle.sqlite.specs.Order.{column}
use Rattle.store_contents.specs.Layouts.{Layout, InTables}
use Rattle.store_statements.specs.Held.{held}
use Rattle.store_statements.proofs.ReadRows.{reads, reads_kept}
use Rattle.store_statements.proofs.Executed.{given}
use Rattle.std.proofs.Common.{◌≡◌, ◌∙◌, [], ◌∷◌, find, map, slice_get, refl}
use Rattle.std.specs.Prelude.{option_map}
use Rattle.std.specs.Option.{option_to_list}
use Rattle.store_statements.proofs.SelectedRows.{first_shown}
use Rattle.store_statements.specs.Keys.{of_first}
use Rattle.store_statements.specs.Shown.{repo_row}
use Rattle.store_statements.specs.FirstRows.{repo_shown}
use Rattle.store_statements.proofs.RepoReads.{shows_repo}
use Rattle.store_statements.proofs.repos.find_repo.Goals as goal

pub returns : goal.returns
returns g c =
    let old = state g.S.Store c.args.conn.now in
    let new = state g.S.Store c.query_all-shown.new.self in
    let it = λ (l : Layout).
    let o = find (of_first c.args.name.now) (held l old).repos in
    reads g.S.Store c.args.conn.now c.query_all-shown.new.self c.checked.new.conn _ _ c.query_all-shown.result c.query_all-shown.ensures.ok c.query_all-shown.ensures.err
    (λ rows o. o ≡ option_map repo_shown (slice_get rows 0)) c.first-found.result c.checked.result c.first-found.ensures c.checked.ensures.told {l = l}
    _ c.query_all-shown.ensures.survives (λ is. is.holds.known.repo_texts.find.plain) _ (given c.params-to_sql.ensures refl)
    (λ v. v ≡ option_map repo_row o) (λ rows. rows.items ≡ map (λ r. column r 2 ∷ column r 3 ∷ []) (option_to_list o))
    (shows_repo c.args.name.now old new c.query_all-shown.result)
    (λ rows v q p. p ∙ first_shown repo_shown (λ r. column r 2 ∷ column r 3 ∷ []) o rows.items q) in
    record {
      found = λ l. (it l).0;
      settled = λ l. (it l).1;
      kept = λ l. reads_kept g.S.Store c.args.conn.now c.query_all-shown.new.self c.checked.new.conn _ _ c.query_all-shown.result c.query_all-shown.ensures.ok c.query_all-shown.ensures.err (λ rows o. o ≡ option_map repo_shown (slice_get rows 0)) c.first-found.result c.checked.result c.first-found.ensures c.checked.ensures.told {l = l} g.met.S.Store.settled c.query_all-shown.ensures.survives (λ is. is.holds.known.repo_texts.find.plain);
      survives = (it InTables).2;
    }
