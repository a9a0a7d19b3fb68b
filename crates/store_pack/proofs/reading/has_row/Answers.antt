use Rattle.std.proofs.Common.{◌≡◌, ◌∙◌, [], ◌∷◌, map, not, length, ap, refl, rules, w64, SFits}
use Rattle.std.proofs.lemmas.Int.{to_z-of_z}
use Rattle.std.specs.Prelude.{◌==◌, find, is_some}
use Rattle.std.specs.Option.{option_to_list}
use Rattle.sqlite.specs.Held.{state}
use Rattle.sqlite.specs.Order.{column}
use Rattle.sqlite.specs.Tree.{has_rowid}
use Rattle.sqlite.specs.declared.types.Value.TheVariants.{Int}
use Rattle.store_statements.proofs.Executed.{given}
use Rattle.store_contents.specs.Places.{content_rows}
use Rattle.store_pack.proofs.ReadLemmas.{reads}
use Rattle.store_pack.proofs.ExtentRows.{found_rows, some_shown}
use Rattle.store_pack.proofs.reading.has_row.Goals as goal

pub returns : goal.returns
returns g c =
    let range : SFits w64 c.get.result = search rules in
    let old = state g.S.Store c.args.conn.now in
    let mid = state g.S.Store c.query_all-shown.new.self in
    let o = find (has_rowid c.args.id.id) (content_rows old.now) in
    reads g.S.Store g.met.S.Store.settled c.args.conn.now c.query_all-shown.new.self c.checked.new.conn _ _ c.query_all-shown.result c.query_all-shown.ensures.ok c.query_all-shown.ensures.err c.query_all-shown.ensures.survives (λ is. is.known.content_texts.find.plain)
    (λ rows any. any ≡ not (length rows == 0)) c.any_row-found.result c.checked.result c.any_row-found.ensures c.checked.ensures.told
    _ (given (c.params-to_sql.ensures ∙ ap Int (to_z-of_z w64 c.get.result range ∙ c.get.ensures)) refl)
    (λ db any. any ≡ is_some (find (has_rowid c.args.id.id) (content_rows db))) (λ rows. rows.items ≡ map (λ r. column r 3 ∷ []) (option_to_list o))
    (found_rows c.args.id.id old mid c.query_all-shown.result)
    (λ rows any q p. p ∙ some_shown (λ r. column r 3 ∷ []) o rows.items q)
