use Rattle.sqlite.specs.Held.{state}
use Rattle.sqlite.specs.Order.{column}
use Rattle.store_contents.specs.Layouts.{Layout, InTables}
use Rattle.store_statements.specs.Held.{held}
use Rattle.store_statements.proofs.ReadRows.{reads, reads_kept}
use Rattle.store_statements.proofs.Executed.{given, is_whole}
use Rattle.std.proofs.Common.{◌≡◌, [], ◌∷◌, map, ◌∙◌, ap, pos, to_z, w64, refl}
use Rattle.store_statements.proofs.SelectedRows.{mapped}
use Rattle.sqlite.specs.declared.types.Value.TheVariants.{Int}
use Rattle.store_statements.specs.World.{pieces_of}
use Rattle.store_statements.specs.Shown.{content_named}
use Rattle.store_statements.proofs.PieceRows.{list_rows}
use Rattle.store_statements.proofs.pieces.pieces_in_order.Goals as goal

pub returns : goal.returns
returns g c =
    let old = state g.S.Store c.args.conn.now in
    let new = state g.S.Store c.query_all-shown.new.self in
    let whole : to_z w64 c.args.number ≡ pos c.args.number = is_whole c.args.number c.requires.fits in
    let it = λ (l : Layout).
    let xs = pieces_of (held l old).pieces c.args.repo.now c.args.number in
    reads g.S.Store c.args.conn.now c.query_all-shown.new.self c.checked.new.conn _ _ c.query_all-shown.result c.query_all-shown.ensures.ok c.query_all-shown.ensures.err
    (λ rows ids. ids.items ≡ map (content_named 0) rows) c.all-found.result c.checked.result c.all-found.ensures c.checked.ensures.told {l = l}
    _ c.query_all-shown.ensures.survives (λ is. is.holds.known.piece_texts.list.plain) _ (given c.params-to_sql.ensures (given (c.params-to_sql-2.ensures ∙ ap Int whole) refl))
    (λ v. v.items ≡ map (content_named 5) xs) (λ rows. rows.items ≡ map (λ r. column r 5 ∷ []) xs)
    (list_rows c.args.repo.now c.args.number old new c.query_all-shown.result)
    (λ rows v q p. mapped (content_named 0) (λ r. column r 5 ∷ []) xs rows.items v.items q p) in
    record {
      found = λ l. (it l).0;
      settled = λ l. (it l).1;
      kept = λ l. reads_kept g.S.Store c.args.conn.now c.query_all-shown.new.self c.checked.new.conn _ _ c.query_all-shown.result c.query_all-shown.ensures.ok c.query_all-shown.ensures.err (λ rows ids. ids.items ≡ map (content_named 0) rows) c.all-found.result c.checked.result c.all-found.ensures c.checked.ensures.told {l = l} g.met.S.Store.settled c.query_all-shown.ensures.survives (λ is. is.holds.known.piece_texts.list.plain);
      survives = (it InTables).2;
    }
