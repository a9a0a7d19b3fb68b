use Rattle.std.proofs.Common.{◌≡◌, ◌<◌, ◌∙◌, length, map, not, ap, sym, arith, rules, SFits, w64}
use Rattle.std.proofs.lemmas.Int.{to_z-of_z}
use Rattle.std.proofs.lemmas.List.{take_all}
use Rattle.std.proofs.lemmas.Result.{IfOk-from_err}
use Rattle.std.specs.Prelude.{filter}
use Rattle.store_schema.specs.Rows.{integer}
use Rattle.store_contents.specs.Linked.{is_linked, id_shown}
use Rattle.store_contents.proofs.ListingLemmas.{lacking_more}
use Rattle.store_contents.proofs.listing.lacking.Goals as goal

pub loop-row-preserved : goal.loop-row-preserved
loop-row-preserved c =
    let low : c.loop-row.row-index < length c.args.rows.now = omega arith in
    let range : SFits w64 c.in_ok-id.id = search rules in
    let named : c.new.result ≡ id_shown c.row-item.result = ap (λ n. record { id = n }) (c.new.ensures ∙ to_z-of_z w64 c.in_ok-id.id range ∙ ap integer (sym c.in_ok-id.ensures.ok.1)) in
    lacking_more c.args.linked.now c.args.rows.now c.loop-row.row-index c.row-item.result c.new.result c.loop-row.ids.items _ low c.row-item.is named c.loop-row.invariant c.in_ok-push_if_lacking.ensures

pub returns : goal.returns
returns c = c.loop-row.invariant ∙ ap (λ rows. filter (λ id. not (is_linked c.args.linked.now id)) (map id_shown rows)) (take_all c.loop-row.row-index c.args.rows.now (omega arith))

pub returns-in_err-id : goal.returns-in_err-id
returns-in_err-id c = IfOk-from_err c.from_residual.result _ c.from_residual.ensures.0

pub returns-in_err-push_if_lacking : goal.returns-in_err-push_if_lacking
returns-in_err-push_if_lacking c = IfOk-from_err c.from_residual-in_err-push_if_lacking.result _ c.from_residual-in_err-push_if_lacking.ensures.0
