use Rattle.std.proofs.Common.{◌≡◌, map}
use Rattle.order_texts.specs.Items.{items_shown, unnamed_item}
use Rattle.order_carrying.proofs.reading.unnamed.Given as goal

abbrev pub invariant-loop-digest : goal.invariant-loop-digest
invariant-loop-digest g l = items_shown l.items ≡ map unnamed_item l.yielded
