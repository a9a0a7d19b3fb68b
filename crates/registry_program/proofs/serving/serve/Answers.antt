use Rattle.registry_opening.specs.Openings.{between}
use Rattle.registry_opening.proofs.SpanLemmas.{none_so_far, ends_without}
use Rattle.registry_program.proofs.ServingLemmas.{served_address}
use Rattle.registry_program.proofs.serving.serve.Goals as goal

pub returns-in-Err : goal.returns-in-Err
returns-in-Err g c =
    let k = g.K.Keeper in
    let had = g.O.Opener.had c.args.opener.now in (
      ends_without k.is_honest k.kept g.O.Opener.opens c.args.path.now had had had _ _
          (none_so_far k.is_honest k.kept g.O.Opener.opens c.args.path.now had _) (λ l is. is),
      c.in-Err.ensures.serving,
    )

pub returns : goal.returns
returns g c =
    let served = c.serve_together-served in
    served_address (between g.K.Keeper.is_honest g.K.Keeper.kept g.O.Opener.opens (g.O.Opener.had c.args.opener.now) (g.O.Opener.had served.new.opener))
    c.args.path.now _ served.result _ _ served.ensures.spans served.ensures.greets served.ensures.fails
