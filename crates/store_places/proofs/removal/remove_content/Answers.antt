use Rattle.std.proofs.Common.{◌∙◌, ap}
use Rattle.sqlite.specs.Held.{state}
use Rattle.store_schema.proofs.Selects.{was_clean}
use Rattle.store_contents.specs.Places.{of_content}
use Rattle.std.specs.Prelude.{filter}
use Rattle.store_places.proofs.RemoveLemmas.{removed_row_then, none_left}
use Rattle.store_places.proofs.removal.remove_content.Goals as goal

pub returns-clause-removed : goal.returns-clause-removed
returns-clause-removed g c clean is =
    let first = c.in_ok-remove_places.ensures.removed (was_clean c.remove_row.ensures.survives clean) is in
    let old = (state g.S.Store c.args.tx.now.conn.now).now in
    let mid = (state g.S.Store c.remove_places.new.tx.conn.now).now in
    removed_row_then old mid (state g.S.Store c.remove_row.new.tx.conn.now) c.args.id.id c.remove_row.result is.holds.content_ids first.0
    (c.remove_row.ensures.removed clean first.1 (ap (filter (of_content c.args.id.id)) first.0.places ∙ none_left _ c.args.id.id))
