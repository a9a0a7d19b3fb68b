use Rattle.std.proofs.Common.{rules, ◌≡◌, Err, inl, inr, refl, ap, subst}
use Rattle.registry_opening.specs.Openings.{between, Once}
use Rattle.registry_orders.specs.Outputs.{output}
use Rattle.order_carrying.specs.Carrying.{CarriesOrder}
use Rattle.registry_tasks.specs.Opened.{EndsOrder}
use Rattle.registry_tasks.proofs.OrderEnds.{order_silent, order_read}
use Rattle.registry_tasks.proofs.StatusBounds.{status_at_most, check_at_most}
use Rattle.registry_tasks.proofs.ExitStatuses.{opening_read}
use Rattle.registry_tasks.proofs.opened.run_order.Goals as goal

pub returns-in-Ok : goal.returns-in-Ok
returns-in-Ok g c =
    let same : c.with_open.new.work.out.now ≡ c.out-1.given.0 = search rules in
    let ended = c.in-Ok.done.ended in
    let ends : EndsOrder ended (output (g.W.Write.contents c.args.out.now) (g.W.Write.contents c.out-1.given.0)) =
    subst (λ x. EndsOrder ended (output (g.W.Write.contents c.args.out.now) (g.W.Write.contents x))) same c.in-Ok.ensures.says.1 in
    let told = c.end_at.ensures.0 in
    record {
      runs = (
        ended,
        inr (subst (λ x. Once (between g.K.Keeper.is_honest g.K.Keeper.kept g.O.Opener.opens
            (g.O.Opener.had c.args.opener.now) (g.O.Opener.had c.with_open.new.self)) c.args.path.now
            (λ s s'. CarriesOrder s c.args.order.now ended (output (g.W.Write.contents c.args.out.now) (g.W.Write.contents x)) s'))
            same c.in-Ok.ensures.worked),
        c.end_at.ensures,
      );
      silent = order_silent ended c.end_at.result _ ends told;
      status = check_at_most ended c.end_at.result told;
      read = order_read ended c.end_at.result _ ends told;
    }

pub returns-in-Err : goal.returns-in-Err
returns-in-Err g c =
    let undone = ap (λ w. w.out.now) c.in-Err.ensures.undone in
    let kept : c.out-1.given.0 ≡ c.args.out.now = search rules in
    let silent = ap g.W.Write.contents kept in
    let failure = c.in-Err.failure in
    let told = c.fail_at.ensures.0 in
    record {
      runs = (Err failure, inl (c.in-Err.ensures.never, (failure, c.in-Err.ensures.refused, refl, silent)), c.fail_at.ensures);
      silent = λ more less. silent;
      status = status_at_most failure c.fail_at.result told;
      read = rw told (opening_read failure c.in-Err.ensures.refused);
    }
