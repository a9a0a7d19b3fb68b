use Rattle.std.proofs.Common.{All, subst, sym}
use Rattle.registry_copy.specs.Fit.{IsFitOfUsage}
use Rattle.registry_copy.specs.Steps.{Meets}
use Rattle.registry_copy.specs.Parts.{RepoOfUsage, IsTaken}
use Rattle.registry_copy.proofs.StepLemmas.{goes_on_with, ends_with, meets_at}
use Rattle.registry_copy.proofs.copying.copy_repos.Goals as goal

pub loop-repo-preserved : goal.loop-repo-preserved
loop-repo-preserved g c =
    let u = c.loop-repo-item.result in
    goes_on_with RepoOfUsage IsTaken c.args.usages.now
    (g.A.Keeper.is_honest c.args.from.now) (g.A.Keeper.is_honest c.loop-repo.from) (g.A.Keeper.is_honest c.copy_repo.new.from)
    (g.A.Keeper.kept c.args.from.now) (g.A.Keeper.kept c.loop-repo.from) (g.A.Keeper.kept c.copy_repo.new.from)
    (g.B.Keeper.is_honest c.args.to.now) (g.B.Keeper.is_honest c.loop-repo.to) (g.B.Keeper.is_honest c.copy_repo.new.to)
    (g.B.Keeper.kept c.args.to.now) (g.B.Keeper.kept c.loop-repo.to) (g.B.Keeper.kept c.copy_repo.new.to)
    c.loop-repo.repo-index u (λ a. IsFitOfUsage a u) (λ _. IsTaken u)
    c.loop-repo-test.true c.loop-repo-item.is c.loop-repo.invariant c.in_ok-copy_repo.field-0 c.in_ok-copy_repo.ensures

pub returns-in_err-copy_repo : goal.returns-in_err-copy_repo
returns-in_err-copy_repo g c =
    let u = c.loop-repo-item.result in
    let usages = c.args.usages.now in
    ends_with RepoOfUsage IsTaken usages
    (g.A.Keeper.is_honest c.args.from.now) (g.A.Keeper.is_honest c.loop-repo.from) (g.A.Keeper.is_honest c.copy_repo.new.from)
    (g.A.Keeper.kept c.args.from.now) (g.A.Keeper.kept c.loop-repo.from) (g.A.Keeper.kept c.copy_repo.new.from)
    (g.B.Keeper.is_honest c.args.to.now) (g.B.Keeper.is_honest c.loop-repo.to) (g.B.Keeper.is_honest c.copy_repo.new.to)
    (g.B.Keeper.kept c.args.to.now) (g.B.Keeper.kept c.loop-repo.to) (g.B.Keeper.kept c.copy_repo.new.to)
    c.loop-repo.repo-index u c.from_residual.result c.in_err-copy_repo.field-0.0 (λ a. IsFitOfUsage a u) (λ a. All (IsFitOfUsage a) usages) (λ _. IsTaken u) (λ a w. Meets (RepoOfUsage a) IsTaken usages w)
    c.loop-repo-test.true c.loop-repo-item.is c.from_residual.ensures c.loop-repo.invariant c.in_err-copy_repo.ensures
    (λ a fit. subst (IsFitOfUsage a) (sym c.loop-repo-item.is) (fit c.loop-repo.repo-index u c.loop-repo-test.true)) (λ a w m. meets_at RepoOfUsage IsTaken usages a c.loop-repo.repo-index u w m c.loop-repo-test.true c.loop-repo-item.is)
