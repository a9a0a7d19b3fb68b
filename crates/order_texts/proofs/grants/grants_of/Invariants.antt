use Rattle.std.proofs.Common.{◌≡◌, take}
use Rattle.order_texts.specs.Items.{items_shown}
use Rattle.order_texts.specs.Grants.{grants_of}
use Rattle.order_texts.proofs.grants.grants_of.Given as goal

abbrev pub invariant-loop-token : goal.invariant-loop-token
invariant-loop-token l = items_shown l.items ≡ grants_of l.name l.asked l.shown (take l.token-index l.levels)
