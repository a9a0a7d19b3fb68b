use Rattle.std.proofs.Common.{◌∙◌, [], ◌∷◌, map, ap}
use Rattle.std.proofs.lemmas.List.{map-append}
use Rattle.order_texts.specs.Items.{item_shown}
use Rattle.order_carrying.proofs.reading.push.Goals as goal
use Rattle.order_carrying.proofs.reading.push.Goals.{in-Ok, in-Err}

pub returns-clause-added : goal.returns-clause-added
returns-clause-added c = elim c.match-push.branch [
  | in-Ok w ↦ rw w.result-is (ap (map item_shown) w.in-Ok.ensures.items ∙ map-append item_shown c.args.items.now.items (c.args.item ∷ []))
  | in-Err w ↦ rw w.result-is tt
]
