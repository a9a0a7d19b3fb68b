use Rattle.std.proofs.Common.{◌≡◌, ◌≤◌, ◌∙◌, ap, sym, true, false}
use Rattle.registry_model.specs.Keeping.{Kept, Reads, Spends}
use Rattle.registry_model.specs.World.{repo_at, has_repo}
use Rattle.registry_model.specs.Limits.{largest}
use Rattle.registry_model.specs.Command.{set_repo, with_quota}
use Rattle.registry_copy.specs.Parts.{RepoBegins}
use Rattle.registry_copy.proofs.ChainLemmas.{keeps_put}
use Rattle.registry_copy.proofs.StepLemmas.{read_there, read_first, wrote}
use Rattle.registry_copy.proofs.repository.begin_repo.Goals as goal

pub returns-in-Ok-false : goal.returns-in-Ok-false
returns-in-Ok-false g c =
    let repo = c.args.repo.now in
    let quota = c.args.quota in
    let k = g.B.Keeper.kept c.args.to.now in
    let k1 = g.B.Keeper.kept c.has_repo.new.self in
    let found = λ (honest : g.B.Keeper.is_honest c.has_repo.new.self). read_there (λ r. Reads r (has_repo k.world repo) k k1) c.has_repo.result c.in-Ok-false.field-0 c.in-Ok-false.ensures (c.has_repo.ensures.found honest) in
    read_first (g.B.Keeper.is_honest c.args.to.now) (g.B.Keeper.is_honest c.set_repo.new.self) k (g.B.Keeper.kept c.set_repo.new.self)
    (g.B.Keeper.is_honest c.has_repo.new.self) k1 c.in-Ok-false.field-0 c.of_target-in-Ok-false.result (RepoBegins repo quota) (quota ≤ largest) (λ w. has_repo w repo ≡ true)
    (λ honest. (found honest).1) (read_there (λ r. Spends r k k1) c.has_repo.result c.in-Ok-false.field-0 c.in-Ok-false.ensures c.has_repo.ensures.spends) c.has_repo.ensures.honest
    (wrote (g.B.Keeper.is_honest c.has_repo.new.self) (g.B.Keeper.is_honest c.set_repo.new.self) k1 (g.B.Keeper.kept c.set_repo.new.self)
    c.set_repo.result c.of_target-in-Ok-false.result (λ w. set_repo w repo quota) (RepoBegins repo quota) (quota ≤ largest) (λ w. has_repo w repo ≡ true)
    c.of_target-in-Ok-false.ensures c.set_repo.ensures.made c.set_repo.ensures.spends c.set_repo.ensures.honest
    (λ w. keeps_put w repo (with_quota (repo_at w repo) quota))
    (λ honest w' e.
    let told = found (c.set_repo.ensures.honest honest) in
    let fresh : has_repo k1.world repo ≡ false = ap (λ (x : Kept). has_repo x.world repo) told.1 ∙ sym told.0 ∙ c.in-Ok-false.field-0-test in
    record { fresh = fresh; is = e }))
