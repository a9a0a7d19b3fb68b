use Rattle.std.proofs.Common.{Ok}
use Rattle.registry_model.specs.World.{no_world}
use Rattle.registry_model.specs.Keeping.{bare}
use Rattle.registry_model.specs.Command.{grant}
use Rattle.registry_copy.specs.Parts.{LevelComes}
use Rattle.registry_copy.proofs.StepLemmas.{goes_on_with, wrote}
use Rattle.registry_copy.proofs.levels.give_levels.Goals as goal

pub loop-token-preserved : goal.loop-token-preserved
loop-token-preserved g c =
    let e = c.loop-token-item.result in
    let repo = c.args.repo.now in
    goes_on_with (λ _. LevelComes repo) (λ _ _. ⊥) c.args.levels.now
    (Unit {0}) (Unit {0}) (Unit {0}) (bare no_world) (bare no_world) (bare no_world)
    (g.B.Keeper.is_honest c.args.to.now) (g.B.Keeper.is_honest c.loop-token.to) (g.B.Keeper.is_honest c.grant.new.self)
    (g.B.Keeper.kept c.args.to.now) (g.B.Keeper.kept c.loop-token.to) (g.B.Keeper.kept c.grant.new.self)
    c.loop-token.token-index e (λ _. Unit {0}) (λ _ _. ⊥)
    c.loop-token-test.true c.loop-token-item.is c.loop-token.invariant c.in_ok-of_target.field-0
    (wrote (g.B.Keeper.is_honest c.loop-token.to) (g.B.Keeper.is_honest c.grant.new.self) (g.B.Keeper.kept c.loop-token.to) (g.B.Keeper.kept c.grant.new.self)
    c.grant.result (Ok c.in_ok-of_target.field-0) (λ w. grant w e.0 repo e.1) (LevelComes repo e) (Unit {0}) (λ _. ⊥)
    c.in_ok-of_target.ensures c.grant.ensures.made c.grant.ensures.spends c.grant.ensures.honest (λ w name there. there) (λ _ w' is. is))
