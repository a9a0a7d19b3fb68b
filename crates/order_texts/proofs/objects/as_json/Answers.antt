use Rattle.std.proofs.Common.{◌∙◌, ◌++◌, map, ap}
use Rattle.serde_json.specs.Written.{has_float, compact_text}
use Rattle.serde_json.proofs.Views.{view-Array}
use Rattle.registry_orders.specs.Outputs.{newline}
use Rattle.order_texts.specs.Items.{item_shown}
use Rattle.order_texts.proofs.TextLemmas.{list_no_float}
use Rattle.order_texts.proofs.objects.as_json.Goals as goal

pub returns : goal.returns
returns c =
    let items = map item_shown c.args.items.now in
    let is = view-Array c.in_ok-item_values.field-0 ∙ c.in_ok-item_values.ensures in
    c.in_ok-push_str.ensures.bytes
    ∙ ap (λ t. t ++ newline) (c.in_ok-text.ensures.text (ap has_float is ∙ list_no_float items) ∙ ap compact_text is)
