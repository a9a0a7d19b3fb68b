use Rattle.std.proofs.Common.{inl, inr, refl, subst}
use Rattle.registry_opening.specs.Openings.{between}
use Rattle.registry_orders.specs.Outputs.{output}
use Rattle.registry_tasks.specs.Acts.{acts}
use Rattle.registry_tasks.specs.Program.{streams}
use Rattle.registry_tasks.specs.Telling.{TellsAt}
use Rattle.registry_tasks.proofs.StatusBounds.{status_at_most}
use Rattle.registry_tasks.proofs.TokenLemmas.{runs_with}
use Rattle.registry_tasks.proofs.tokens.run_token_order.Goals as goal

pub returns-in-Ok : goal.returns-in-Ok
returns-in-Ok g c =
    let e = streams (g.R.Read.remaining c.args.reader.now) (g.R.Read.remaining c.token_of.new.reader)
    (g.W.Write.contents c.args.out.now) (g.W.Write.contents c.run_order_at.new.out) in
    let errors = output (g.E.Write.contents c.args.err.now) (g.E.Write.contents c.run_order_at.new.err) in
    record {
      runs = inl (
        c.run_order_at.ensures.read,
        runs_with (acts (between g.K.Keeper.is_honest g.K.Keeper.kept g.O.Opener.opens (g.O.Opener.had c.args.opener.now) (g.O.Opener.had c.run_order_at.new.opener))
            (g.M.Messenger.had c.args.messenger.now) (g.M.Messenger.had c.run_order_at.new.messenger)) c.args.place c.args.source c.args.order c.run_order_at.result e errors
            c.in-Ok.token c.in-Ok.ensures.given (rw c.with.ensures at c.run_order_at.ensures.runs),
      );
      silent = c.run_order_at.ensures.silent;
      status = c.run_order_at.ensures.status;
    }

pub returns-in-Err : goal.returns-in-Err
returns-in-Err g c =
    let errors = output (g.E.Write.contents c.args.err.now) (g.E.Write.contents c.say_at.new.err) in
    let none = c.in-Err.none in
    let said = c.say_at.ensures in
    record {
      runs = inr (
        ((λ l had. had), (λ l had. had)),
        c.token_of.ensures.spared,
        (none.failure, c.in-Err.ensures.refused, said.status, refl, subst (λ place. TellsAt none.failure place errors) c.in-Err.ensures.placed (none.cause, said.said)),
      );
      silent = λ more less. refl;
      status = status_at_most none.failure c.say_at.result said.status;
    }
