use Rattle.std.proofs.Common.{refl, ◌∙◌}
use Rattle.order_sockets.proofs.CallingLemmas.{none_come, come_then}
use Rattle.order_sockets.proofs.callers.Callers.accept_all.Goals as goal

pub loop-init : goal.loop-init
loop-init c = record { come = none_come _; stopping = refl }

pub loop-preserved : goal.loop-preserved
loop-preserved c = record {
  come = come_then _ _ _ c.loop.invariant.come c.accept_next.ensures.come;
  stopping = c.accept_next.ensures.stopping ∙ c.loop.invariant.stopping;
}
