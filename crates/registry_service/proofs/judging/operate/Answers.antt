use Rattle.std.proofs.Common.{◌∙◌, Some, Ok, refl, sym, ap, subst}
use Rattle.registry_model.specs.declared.refusal.Refusal.TheVariants.{AccessDenied}
use Rattle.registry_model.specs.World.{Repo, repo_at, has_repo}
use Rattle.registry_model.specs.Answer.{refused}
use Rattle.registry_model.specs.Decision.{in_repo}
use Rattle.registry_model.specs.Judging.{operate}
use Rattle.registry_model.specs.Keeping.{Kept}
use Rattle.operation_parts.proofs.RepoOutcomes.{spends_after}
use Rattle.registry_service.specs.Operations.{shown_operation}
use Rattle.registry_service.specs.Bodies.{from_body}
use Rattle.registry_service.proofs.BodyLemmas.{to_each, same_from}
use Rattle.registry_service.proofs.JudgingLemmas.{gave_up, told, same_start, absent}
use Rattle.registry_service.proofs.judging.operate.Goals as goal

pub returns-in_err-has_repo : goal.returns-in_err-has_repo
returns-in_err-has_repo g c =
    let s = g.K.Keeper.kept c.args.keeper.now in
    let name = c.args.name.now in
    to_each (g.B.RequestBody.stage c.args.body) _ c.from_residual.result (Some name)
    (λ t. in_repo (repo_at s.world name) (λ r. operate (s.world.grants c.args.token.now) (repo_at s.world) r name (shown_operation c.args.operation) t))
    _ s _ _ _ (λ t. gave_up _ c.from_residual.result c.in_err-has_repo.field-0.0 _ _ _ _ _ _ _ c.from_residual.ensures c.in_err-has_repo.ensures)

pub returns-then-not-branch : goal.returns-then-not-branch
returns-then-not-branch g c =
    let s = g.K.Keeper.kept c.args.keeper.now in
    let name = c.args.name.now in
    let asked = c.in_ok-has_repo.ensures in
    to_each (g.B.RequestBody.stage c.args.body) _ (Ok c.refusal.result) (Some name)
    (λ t. in_repo (repo_at s.world name) (λ r. operate (s.world.grants c.args.token.now) (repo_at s.world) r name (shown_operation c.args.operation) t))
    _ s _ _ _
    (λ t. told c.refusal.result (refused AccessDenied) (Some name)
    (in_repo (repo_at s.world name) (λ r. operate (s.world.grants c.args.token.now) (repo_at s.world) r name (shown_operation c.args.operation) t))
    _ s _ _ _ c.refusal.ensures refl refl asked.spends.0 asked.spends.1 (λ honest. (asked.found honest).1) asked.honest
    (λ honest. absent (repo_at s.world name) _ (sym (asked.found honest).0 ∙ c.if-not-branch.true)))

pub operate_there-requires-clause-unspent : goal.operate_there-requires-clause-unspent
operate_there-requires-clause-unspent g c = c.in_ok-has_repo.ensures.spends.1

pub operate_there-requires-clause-there : goal.operate_there-requires-clause-there
operate_there-requires-clause-there g c honest =
    let found = c.in_ok-has_repo.ensures.found honest in
    ap (λ (x : Kept). has_repo x.world c.args.name.now) found.1 ∙ sym found.0 ∙ c.if-not-branch.false

pub returns : goal.returns
returns g c = record {
  comes = λ honest t is.
      let stage = g.B.RequestBody.stage c.args.body in
      let s = g.K.Keeper.kept c.args.keeper.now in
      let late = g.K.Keeper.kept c.operate_there.new.keeper in
      let same = (c.in_ok-has_repo.ensures.found (c.operate_there.ensures.honest honest)).1 in
      same_start c.operate_there.result c.args.name.now
      (λ (x : Kept) (r : Repo). operate (x.world.grants c.args.token.now) (repo_at x.world) r c.args.name.now (shown_operation c.args.operation) t)
      (from_body stage s late) (from_body stage (g.K.Keeper.kept c.has_repo.new.self) late) late (same_from stage s (g.K.Keeper.kept c.has_repo.new.self) late same)
      (c.operate_there.ensures.comes honest t (subst (λ x. g.B.RequestBody.is_body c.args.body x t) (sym same) is));
  answers = c.operate_there.ensures.answers;
  carries = c.operate_there.ensures.carries;
  spends = spends_after c.operate_there.result (g.K.Keeper.kept c.args.keeper.now) _ _ c.in_ok-has_repo.ensures.spends.0 c.operate_there.ensures.spends;
  honest = λ honest. c.in_ok-has_repo.ensures.honest (c.operate_there.ensures.honest honest);
}
