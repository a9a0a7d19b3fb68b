use Rattle.std.proofs.Common.{take, ap, refl, sym, append-nil, arith}
use Rattle.std.specs.List.{flat_map}
use Rattle.std.proofs.lemmas.List.{take_all}
use Rattle.registry_checking.specs.Wrongs.{wrongs_at}
use Rattle.registry_checking.proofs.WrongLemmas.{one_more, stopped, done, flat_more}
use Rattle.registry_checking.proofs.looking.look_at_repos.Goals as goal

pub loop-repo-init : goal.loop-repo-init
loop-repo-init g c = record { unspent = c.requires; honest = λ honest. honest; same = λ _. refl; found = λ _. sym (append-nil c.args.wrongs.now.items) }

pub loop-repo-preserved : goal.loop-repo-preserved
loop-repo-preserved g c =
    let w = (g.K.Keeper.kept c.args.keeper.now).world in
    let e = c.loop-repo-item.result in
    one_more c.in_ok-look_at_repo.field-0 (flat_map (λ u. wrongs_at w u.0) (take c.loop-repo.repo-index c.args.usages.now)) _ _ _
    (λ w. wrongs_at w e.0) _ _ _ _ _ _ c.loop-repo.invariant _ c.in_ok-look_at_repo.ensures
    (flat_more (λ u. wrongs_at w u.0) c.args.usages.now c.loop-repo.repo-index e c.loop-repo-test.true c.loop-repo-item.is)

pub returns-in_err-look_at_repo : goal.returns-in_err-look_at_repo
returns-in_err-look_at_repo g c =
    stopped c.from_residual.result _ _ _ _ _ _ _ _ _ _ _ _ _ c.loop-repo.invariant c.requires c.from_residual.ensures c.in_err-look_at_repo.ensures

pub returns : goal.returns
returns g c =
    done _ _ _ _ _ _ _ _ c.loop-repo.invariant c.requires
    (ap (flat_map (λ u. wrongs_at (g.K.Keeper.kept c.args.keeper.now).world u.0)) (take_all c.loop-repo.repo-index c.args.usages.now (omega arith)))
