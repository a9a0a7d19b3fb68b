use Rattle.std.proofs.Common.{◌≡◌, ◌∙◌, ◌∷◌, [], filter, inl, map, sym, ap, subst}
use Rattle.sqlite.specs.Held.{state}
use Rattle.sqlite.specs.Order.{column}
use Rattle.sqlite_keyed.specs.Lists.{sort_by}
use Rattle.sqlite_trees.proofs.ListLemmas.{map-map}
use Rattle.registry_model.specs.Lookups.{AreLevelsOn}
use Rattle.store_contents.specs.Layouts.{Layout, InTables}
use Rattle.store_statements.specs.Between.{ChangesNothing, FailsAsWas}
use Rattle.store_statements.specs.Held.{held, world_in}
use Rattle.store_statements.specs.Keys.{of_second}
use Rattle.store_statements.specs.Shown.{by_token}
use Rattle.store_statements.proofs.Levels.{levels_found}
use Rattle.store_statements.proofs.ReadRows.{value_read}
use Rattle.store_statements.proofs.Transactions.{registry}
use Rattle.store_reads.specs.LevelLists.{token_level_shown}
use Rattle.store_bytes.proofs.CheckedReads.{tells, stays, lasts, same_read, left_read}
use Rattle.store_reads.proofs.level_lists.levels.Goals as goal

pub returns : goal.returns
returns g c =
    let old = c.args.conn.now in
    let mid = c.token_rows.new.conn in
    let new = c.checked.new.conn in
    let world = λ (l : Layout). world_in l (state g.S.Store old) in
    let grants = λ (l : Layout). sort_by by_token (filter (of_second c.args.repo.now) (held l (state g.S.Store old)).grants) in
    let same : (l : Layout) → ChangesNothing g.S.Store l old mid c.levels_of-found.result = λ l late is. same_read c.token_rows.result c.levels_of-found.result c.levels_of-found.ensures.shown _ (c.token_rows.ensures.same l late is) in
    let failed : (l : Layout) → FailsAsWas g.S.Store l old mid c.levels_of-found.result = λ l late is. left_read c.token_rows.result c.levels_of-found.result c.levels_of-found.ensures.shown _ _ inl (c.token_rows.ensures.same l late is) (c.token_rows.ensures.err l late is) in
    record {
      found = λ l. tells g.S.Store old mid new c.levels_of-found.result c.checked.result c.checked.ensures.told (same l) (failed l) (λ levels. AreLevelsOn (world l) c.args.repo.now levels.items) (λ late is.
          value_read (λ levels. AreLevelsOn (world l) c.args.repo.now levels.items) (λ rows. rows.items ≡ map (λ r. column r 1 ∷ column r 3 ∷ []) (grants l)) (λ rows levels. levels.items ≡ map token_level_shown rows)
          (λ rows levels shown read. subst (AreLevelsOn (world l) c.args.repo.now) (sym (read ∙ ap (map token_level_shown) shown ∙ map-map token_level_shown (λ r. column r 1 ∷ column r 3 ∷ []) (grants l))) (levels_found (held l (state g.S.Store old)) c.args.repo.now (registry (state g.S.Store old) is)))
          c.token_rows.result c.levels_of-found.result c.levels_of-found.ensures.shown c.levels_of-found.ensures.value (rw c.as_str.ensures.text at (c.token_rows.ensures.shown l late is)));
      settled = λ l. stays g.S.Store old mid new c.levels_of-found.result c.checked.result c.checked.ensures.told (same l) (failed l);
      survives = lasts g.S.Store old mid new c.levels_of-found.result c.checked.result c.checked.ensures.told (same InTables) (failed InTables) c.token_rows.ensures.survives;
    }
