use Rattle.std.proofs.Common.{◌∙◌, sym, ap}
use Rattle.registry_model.specs.Range.{is_whole_length, positions_of, positions_fit}
use Rattle.registry_model.proofs.PlacesAndDigits.{whole_range, cut_range, bad_range}
use Rattle.registry_model.proofs.range.verdict_on.Goals as goal

pub returns-in-None : goal.returns-in-None
returns-in-None c =
    c.verdict_on_positions.ensures
    ∙ whole_range c.args.value.now c.without_unit-text.result.now c.args.length c.args.body_length c.without_unit-text.ensures c.in-None.ensures.0 c.in-None.ensures.1

pub returns-then-is_whole_length : goal.returns-then-is_whole_length
returns-then-is_whole_length c =
    let parts = c.in-Some.ensures in
    c.verdict_on_positions-then-is_whole_length.ensures
    ∙ ap (λ u. positions_fit (positions_of u) c.args.length c.args.body_length) parts.1
    ∙ cut_range c.args.value.now c.without_unit-text.result.now c.args.length c.args.body_length c.without_unit-text.ensures parts.0
    (ap is_whole_length (sym parts.2) ∙ sym c.is_whole_length.ensures ∙ c.if-is_whole_length.true)

pub returns-else-is_whole_length : goal.returns-else-is_whole_length
returns-else-is_whole_length c =
    let parts = c.in-Some.ensures in
    bad_range c.args.value.now c.without_unit-text.result.now c.args.length c.args.body_length c.without_unit-text.ensures parts.0
    (ap is_whole_length (sym parts.2) ∙ sym c.is_whole_length.ensures ∙ c.if-is_whole_length.false)
