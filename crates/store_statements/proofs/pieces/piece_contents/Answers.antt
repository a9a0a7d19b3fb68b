use Rattle.std.proofs.Common.{◌≡◌, [], ◌∷◌, map}
use Rattle.std.specs.List.Sorted.{IsPermutation}
use Rattle.sqlite.specs.Held.{state}
use Rattle.sqlite.specs.Order.{column}
use Rattle.store_contents.specs.Layouts.{Layout}
use Rattle.store_statements.specs.Shown.{content_named}
use Rattle.store_statements.specs.Held.{held}
use Rattle.store_statements.proofs.ReadInside.{reads_inside}
use Rattle.store_statements.proofs.SelectedRows.{lists_of}
use Rattle.store_statements.proofs.PieceRows.{content_rows}
use Rattle.store_statements.proofs.pieces.piece_contents.Goals as goal

pub returns : goal.returns
returns g c =
    let old = state g.S.Store c.args.tx.now.conn.now in
    let new = state g.S.Store c.query_all.new.self.conn.now in
    let it = λ (l : Layout).
    let xs = (held l old).pieces in
    reads_inside {l = l} g.S.Store c.args.tx.now.conn.now c.query_all.new.self.conn.now _ _ c.query_all.result c.query_all.ensures.ok c.query_all.ensures.err (λ is. is.holds.known.piece_texts.contents.plain)
    (λ rows ids. ids.items ≡ map (content_named 0) rows) c.all.result c.all.ensures
    (λ v. IsPermutation (map (content_named 5) xs) v.items) (λ rows. IsPermutation (map (λ r. column r 5 ∷ []) xs) rows.items)
    (content_rows old new c.query_all.result)
    (λ rows v q p. lists_of (content_named 0) (λ r. column r 5 ∷ []) xs rows.items v.items q p) in
    record { found = λ l. (it l).0; same = λ l. (it l).1; kept = λ l. (it l).2; same_reference = c.query_all.ensures.same_reference; survives = c.query_all.ensures.survives }
