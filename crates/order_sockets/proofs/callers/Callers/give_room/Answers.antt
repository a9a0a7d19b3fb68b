use Rattle.order_sockets.proofs.CallingLemmas.{all_stay, stay_removed}
use Rattle.order_sockets.proofs.callers.Callers.give_room.Goals as goal

pub returns-then-not-self-clause-stay : goal.returns-then-not-self-clause-stay
returns-then-not-self-clause-stay c = all_stay _

pub returns-then-at-len-clause-stay : goal.returns-then-at-len-clause-stay
returns-then-at-len-clause-stay c = stay_removed c.in-Some.at c.args.self.now.callers.items c.remove.new.self.items c.remove.ensures.items

pub returns-else-at-len-clause-stay : goal.returns-else-at-len-clause-stay
returns-else-at-len-clause-stay c = all_stay _

pub returns-in_default-clause-stay : goal.returns-in_default-clause-stay
returns-in_default-clause-stay c = all_stay _
