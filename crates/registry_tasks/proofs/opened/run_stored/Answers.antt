use Rattle.std.proofs.Common.{rules, ◌≡◌, Err, inl, inr, refl, ap, subst}
use Rattle.registry_opening.specs.Openings.{between, Once}
use Rattle.registry_tasks.specs.Program.{streams, ServesOne}
use Rattle.registry_tasks.proofs.ExitStatuses.{opening_status}
use Rattle.registry_tasks.proofs.StatusBounds.{status_at_most, check_at_most, connection_failed}
use Rattle.registry_tasks.proofs.opened.run_stored.Goals as goal

pub returns-in-Ok : goal.returns-in-Ok
returns-in-Ok g c =
    let read : c.with_open.new.work.reader.now ≡ c.reader-1.given.0 = search rules in
    let written : c.with_open.new.work.out.now ≡ c.out-1.given.0 = search rules in
    let ended = c.in-Ok.done.ended in
    let told = c.end_at.ensures.0 in
    record {
      runs = (
        ended,
        inr (subst (λ y. Once (between g.K.Keeper.is_honest g.K.Keeper.kept g.O.Opener.opens
            (g.O.Opener.had c.args.opener.now) (g.O.Opener.had c.with_open.new.self)) c.args.path.now
            (ServesOne c.args.settings ended (streams (g.R.Read.remaining c.args.reader.now) (g.R.Read.remaining y)
            (g.W.Write.contents c.args.out.now) (g.W.Write.contents c.out-1.given.0))))
            read (subst (λ x. Once (between g.K.Keeper.is_honest g.K.Keeper.kept g.O.Opener.opens
            (g.O.Opener.had c.args.opener.now) (g.O.Opener.had c.with_open.new.self)) c.args.path.now
            (ServesOne c.args.settings ended (streams (g.R.Read.remaining c.args.reader.now) (g.R.Read.remaining c.with_open.new.work.reader.now)
            (g.W.Write.contents c.args.out.now) (g.W.Write.contents x))))
            written c.in-Ok.ensures.worked)),
        c.end_at.ensures,
      );
      failed = connection_failed ended c.end_at.result c.in-Ok.ensures.says.2 told;
      status = check_at_most ended c.end_at.result told;
    }

pub returns-in-Err : goal.returns-in-Err
returns-in-Err g c =
    let unread = ap (λ w. w.reader.now) c.in-Err.ensures.undone in
    let unwritten = ap (λ w. w.out.now) c.in-Err.ensures.undone in
    let left : c.reader-1.given.0 ≡ c.args.reader.now = search rules in
    let kept : c.out-1.given.0 ≡ c.args.out.now = search rules in
    let failure = c.in-Err.failure in
    let told = c.fail_at.ensures.0 in
    record {
      runs = (
        Err failure,
        inl (c.in-Err.ensures.never, (failure, c.in-Err.ensures.refused, refl, ap g.W.Write.contents kept), ap g.R.Read.remaining left),
        c.fail_at.ensures,
      );
      failed = λ more. rw told (opening_status failure c.in-Err.ensures.refused);
      status = status_at_most failure c.fail_at.result told;
    }
