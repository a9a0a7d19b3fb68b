use Rattle.std.proofs.Common.{◌≡◌, ◌∙◌, ap, arith}
use Rattle.registry_model.specs.Keeping.{Reads, Spends}
use Rattle.registry_model.specs.World.{repo_at}
use Rattle.registry_model.specs.Lookups.{last_number_at}
use Rattle.registry_copy.specs.Fit.{IsFitAt}
use Rattle.registry_copy.specs.Restoring.{set_last}
use Rattle.registry_copy.proofs.ChainLemmas.{keeps_updated}
use Rattle.registry_copy.proofs.StepLemmas.{from_to, read_as, wrote, behind}
use Rattle.registry_copy.proofs.repository.copy_last.Goals as goal

pub returns-in-Ok : goal.returns-in-Ok
returns-in-Ok g c =
    let repo = c.args.repo.now in
    let k = g.A.Keeper.kept c.args.from.now in
    let k' = g.A.Keeper.kept c.last_number.new.self in
    let number = c.in-Ok.number in
    let found = λ (honest : g.A.Keeper.is_honest c.last_number.new.self). read_as (λ r. Reads r (last_number_at k.world repo) k k') c.last_number.result number c.in-Ok.ensures (c.last_number.ensures.found honest) in
    behind (g.A.Keeper.is_honest c.args.from.now) (g.A.Keeper.is_honest c.last_number.new.self) k k' number
    (from_to (g.B.Keeper.is_honest c.args.to.now) (g.B.Keeper.is_honest c.set_last.new.self) (g.B.Keeper.kept c.args.to.now) (g.B.Keeper.kept c.set_last.new.self)) c.of_target.result
    (λ w w'. w' ≡ set_last w repo number) (Unit {0}) (λ _. ⊥) (λ a _ w w'. w' ≡ set_last w repo (last_number_at a repo)) (λ a. IsFitAt a repo) (λ _ _. ⊥)
    (λ honest. (found honest).1) (read_as (λ r. Spends r k k') c.last_number.result number c.in-Ok.ensures c.last_number.ensures.spends) c.last_number.ensures.honest
    (wrote (g.B.Keeper.is_honest c.args.to.now) (g.B.Keeper.is_honest c.set_last.new.self) (g.B.Keeper.kept c.args.to.now) (g.B.Keeper.kept c.set_last.new.self)
    c.set_last.result c.of_target.result (λ w. set_last w repo number) (λ w w'. w' ≡ set_last w repo number) (Unit {0}) (λ _. ⊥)
    c.of_target.ensures c.set_last.ensures.made c.set_last.ensures.spends c.set_last.ensures.honest
    (λ w. keeps_updated w repo (λ r. record r { last = number }) (repo_at w repo)) (λ _ w' e. e))
    (λ honest x w w' e. e ∙ ap (λ n. set_last w repo n) (found honest).0) (λ _ _. tt) (λ _ w x. x)

pub set_last-requires-clause-rises : goal.set_last-requires-clause-rises
set_last-requires-clause-rises g c = λ ht unspent. let none = c.requires.new ht unspent in omega (arith, none)
