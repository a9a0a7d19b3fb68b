use Rattle.std.proofs.Common.{◌≡◌, map}
use Rattle.order_texts.specs.Items.{items_shown, repo_item}
use Rattle.order_carrying.proofs.reading.repos.Given as goal

abbrev pub invariant-loop-name : goal.invariant-loop-name
invariant-loop-name g l = items_shown l.items ≡ map repo_item l.yielded
