use Rattle.std.proofs.Common.{refl}
use Rattle.order_sockets.proofs.CallingLemmas.{all_stay, stay_removed}
use Rattle.order_sockets.proofs.callers.Callers.dismiss_if.Goals as goal

pub returns : goal.returns
returns c = record { stay = all_stay _; stopping = refl }

pub returns-then-at-len : goal.returns-then-at-len
returns-then-at-len c = record {
  stay = stay_removed c.args.at c.args.self.now.callers.items c.remove.new.self.items c.remove.ensures.items;
  stopping = refl;
}
