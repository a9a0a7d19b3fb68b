use Rattle.std.proofs.Common.{Ok, Err, [], take, ap, refl, sym, append-nil, arith}
use Rattle.std.specs.List.{filter_map, cons_option}
use Rattle.std.proofs.lemmas.List.{take_all}
use Rattle.registry_checking.specs.Wrongs.{wrong_at}
use Rattle.registry_checking.proofs.WrongLemmas.{noted, one_more, stopped, done, kept_more}
use Rattle.registry_checking.proofs.looking.look_at_all.Goals as goal

pub loop-digest-init : goal.loop-digest-init
loop-digest-init g c = record { unspent = c.requires; honest = λ honest. honest; same = λ _. refl; found = λ _. sym (append-nil c.args.wrongs.now.items) }

pub loop-digest-preserved : goal.loop-digest-preserved
loop-digest-preserved g c =
    let w = (g.K.Keeper.kept c.args.keeper.now).world in
    let digest = c.digest-item.result in
    one_more c.in_ok-note.field-0 (filter_map (wrong_at c.args.kept w c.args.repo.now) (take c.loop-digest.digest-index c.args.digests.now)) _ _ _
    (λ w. cons_option (wrong_at c.args.kept w c.args.repo.now digest) []) _ _ _ _ _ _ c.loop-digest.invariant _
    (noted c.look_at_one-found.result (Ok c.in_ok-note.field-0) (wrong_at c.args.kept (g.K.Keeper.kept c.loop-digest.keeper).world c.args.repo.now digest) _ _ _ _ _ _ c.in_ok-note.ensures c.look_at_one-found.ensures)
    (kept_more (wrong_at c.args.kept w c.args.repo.now) c.args.digests.now c.loop-digest.digest-index digest c.loop-digest-test.true c.digest-item.is)

pub returns-in_err-note : goal.returns-in_err-note
returns-in_err-note g c =
    stopped c.from_residual.result _ _ _ _ _ _ _ _ _ _ _ _ _ c.loop-digest.invariant c.requires c.from_residual.ensures
    (noted c.look_at_one-found.result (Err c.in_err-note.field-0.0) (wrong_at c.args.kept (g.K.Keeper.kept c.loop-digest.keeper).world c.args.repo.now c.digest-item.result) _ _ _ _ _ _ c.in_err-note.ensures c.look_at_one-found.ensures)

pub returns : goal.returns
returns g c =
    done _ _ _ _ _ _ _ _ c.loop-digest.invariant c.requires
    (ap (filter_map (wrong_at c.args.kept (g.K.Keeper.kept c.args.keeper.now).world c.args.repo.now)) (take_all c.loop-digest.digest-index c.args.digests.now (omega arith)))
