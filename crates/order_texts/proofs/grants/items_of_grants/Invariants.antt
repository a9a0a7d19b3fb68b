use Rattle.std.proofs.Common.{◌≡◌, take}
use Rattle.order_texts.specs.Items.{items_shown}
use Rattle.order_texts.specs.Grants.{items_of_grants}
use Rattle.order_texts.proofs.grants.items_of_grants.Given as goal

abbrev pub invariant-loop-one : goal.invariant-loop-one
invariant-loop-one l = items_shown l.items ≡ items_of_grants l.asked l.shown (take l.one-index l.grants)
