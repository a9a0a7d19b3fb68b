use Rattle.std.proofs.Common.{◌≡◌, take, map}
use Rattle.serde_json.specs.View.{view}
use Rattle.order_texts.specs.Items.{item_shown}
use Rattle.order_texts.specs.Texts.{data_of}
use Rattle.order_texts.proofs.objects.item_values.Given as goal

abbrev pub invariant-loop-item : goal.invariant-loop-item
invariant-loop-item l = map view l.values.items ≡ map data_of (map item_shown (take l.item-index l.items))
