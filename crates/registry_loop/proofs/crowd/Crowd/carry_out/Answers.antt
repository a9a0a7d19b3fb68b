use Rattle.std.proofs.Common.{◌∙◌, sym, subst}
use Rattle.order_sockets.specs.Calling.{AttendsRound}
use Rattle.order_sockets.specs.Calls.{all_called}
use Rattle.registry_loop.proofs.crowd.Crowd.carry_out.Goals as goal

pub returns : goal.returns
returns g c = record {
  honest = c.take_orders.ensures.honest;
  attends = λ honest.
      subst (λ l. AttendsRound (all_called c.args.self.now.callers.callers.items) l (g.K.Keeper.kept c.args.service.now) (g.K.Keeper.kept c.take_orders.new.service))
      (sym c.note_work.ensures.callers) (c.take_orders.ensures.attends honest);
  same = c.note_work.ensures.same;
  limits = c.note_work.ensures.limits ∙ c.take_orders.ensures.limits;
}
