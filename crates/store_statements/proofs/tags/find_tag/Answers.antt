use Rattle.std.proofs.Common.{◌≡◌, ◌∙◌, [], ◌∷◌, find, map, slice_get, refl}
use Rattle.std.specs.Prelude.{option_map}
use Rattle.std.specs.Option.{option_to_list}
use Rattle.sqlite.specs.Held.{state}
use Rattle.sqlite.specs.Order.{column}
use Rattle.store_schema.specs.Rows.{bytes_at}
use Rattle.store_contents.specs.Layouts.{Layout, InTables}
use Rattle.store_statements.specs.Keys.{has_key}
use Rattle.store_statements.specs.Held.{held}
use Rattle.store_statements.proofs.Executed.{given}
use Rattle.store_statements.proofs.ReadRows.{reads, reads_kept}
use Rattle.store_statements.proofs.SelectedRows.{first_shown}
use Rattle.store_statements.proofs.TagReads.{digest_shown}
use Rattle.store_statements.proofs.tags.find_tag.Goals as goal

pub returns : goal.returns
returns g c =
    let old = state g.S.Store c.args.conn.now in
    let it = λ (l : Layout).
    let o = find (has_key c.args.repo.now c.args.tag.now) (held l old).tags in
    reads g.S.Store c.args.conn.now c.query_all-shown.new.self c.checked.new.conn _ _ c.query_all-shown.result c.query_all-shown.ensures.ok c.query_all-shown.ensures.err
    (λ rows o. o ≡ option_map (λ row. bytes_at row 0) (slice_get rows 0)) c.first_on-found.result c.checked.result c.first_on-found.ensures c.checked.ensures.told {l = l}
    _ c.query_all-shown.ensures.survives (λ is. is.holds.known.tag_texts.find.plain) _ (given c.params-to_sql.ensures (given c.params-to_sql-2.ensures refl))
    (λ v. v ≡ option_map (λ r. bytes_at r 3) o) (λ rows. rows.items ≡ map (λ r. column r 3 ∷ []) (option_to_list o))
    (digest_shown old (state g.S.Store c.query_all-shown.new.self) c.args.repo.now c.args.tag.now c.query_all-shown.result)
    (λ rows v q p. p ∙ first_shown (λ row. bytes_at row 0) (λ r. column r 3 ∷ []) o rows.items q) in
    record {
      found = λ l. (it l).0;
      settled = λ l. (it l).1;
      kept = λ l. reads_kept g.S.Store c.args.conn.now c.query_all-shown.new.self c.checked.new.conn _ _ c.query_all-shown.result c.query_all-shown.ensures.ok c.query_all-shown.ensures.err (λ rows o. o ≡ option_map (λ row. bytes_at row 0) (slice_get rows 0)) c.first_on-found.result c.checked.result c.first_on-found.ensures c.checked.ensures.told {l = l} g.met.S.Store.settled c.query_all-shown.ensures.survives (λ is. is.holds.known.tag_texts.find.plain);
      survives = (it InTables).2;
    }
