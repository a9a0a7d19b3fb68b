use Rattle.std.proofs.Common.{◌≡◌, map}
use Rattle.order_texts.specs.Items.{items_shown, tag_item}
use Rattle.order_carrying.proofs.reading.tags.Given as goal

abbrev pub invariant-loop-tag : goal.invariant-loop-tag
invariant-loop-tag g l = items_shown l.items ≡ map (λ e. tag_item e.0 e.1) l.yielded
