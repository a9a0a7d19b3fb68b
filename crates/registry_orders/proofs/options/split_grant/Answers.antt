use Rattle.std.proofs.Common.{◌∙◌, ◌++◌, ◌∷◌, ap, sym}
use Rattle.oci_types.specs.Text.{Text}
use Rattle.registry_orders.proofs.SplittingLemmas.{at_last_equals}
use Rattle.registry_orders.proofs.options.split_grant.Goals as goal

pub returns : goal.returns
returns c =
    let outer = at_last_equals c.args.text.now c.in_ok-front.front.now c.in_ok-front.level.now c.in_ok-front.ensures.cases in
    let inner = at_last_equals c.in_ok-front.front.now c.in_ok-token.token.now c.in_ok-token.name.now c.in_ok-token.ensures.cases in (
      c.in_ok-front.level.now,
      c.in_ok-decimal.field-0,
      outer.0 ∙ ap (λ (x : Text). x ++ 61 ∷ c.in_ok-front.level.now) inner.0,
      inner.1,
      c.in_ok-decimal.ensures,
      sym c.level_numbered.ensures ∙ c.in_ok-level.was,
    )
