use Rattle.std.proofs.Common.{◌∙◌, ◌+◌, ◌∷◌, drop, refl, ap, sym}
use Rattle.std.proofs.lemmas.List.{at_drop_more, at_drop_all}
use Rattle.registry_orders.specs.declared.options.RepoOption.{RepoOption}
use Rattle.registry_model.specs.Keeping.{state_of}
use Rattle.registry_orders.specs.Setting.{with_repos}
use Rattle.registry_orders.proofs.SettingLemmas.{repo_made, repo_told}
use Rattle.registry_tasks.proofs.setting_up.make_repos.Goals as goal

pub loop-repo-init : goal.loop-repo-init
loop-repo-init g c = record { honest = λ h. h; so_far = λ h. refl }

pub returns-in-Err : goal.returns-in-Err
returns-in-Err g c =
    let s = state_of (g.K.Keeper.kept c.loop-repo.service) in
    let others = drop (c.loop-repo.repo-index + 1) c.args.repos.now in
    record {
      honest = λ honest. c.loop-repo.invariant.honest (c.admin.ensures.honest honest);
      made = λ honest.
          repo_told s (state_of (g.K.Keeper.kept c.admin.new.self)) _ _ c.repo-item.result others c.in-Err.fault _ (rw c.in-Err.is at (c.admin.ensures.does honest)) refl
          (c.loop-repo.invariant.so_far (c.admin.ensures.honest honest)
          ∙ at_drop_more (with_repos s.world) c.args.repos.now c.loop-repo.repo-index c.repo-item.result c.loop-repo-test.true
          ∙ ap (λ (o : RepoOption). with_repos s.world (o ∷ others)) (sym c.repo-item.is))
          c.of_command.ensures;
    }

pub loop-repo-preserved : goal.loop-repo-preserved
loop-repo-preserved g c =
    let s = state_of (g.K.Keeper.kept c.loop-repo.service) in
    let others = drop (c.loop-repo.repo-index + 1) c.args.repos.now in
    record {
      honest = λ honest. c.loop-repo.invariant.honest (c.admin.ensures.honest honest);
      so_far = λ honest. c.loop-repo.invariant.so_far (c.admin.ensures.honest honest)
          ∙ at_drop_more (with_repos s.world) c.args.repos.now c.loop-repo.repo-index c.repo-item.result c.loop-repo-test.true
          ∙ ap (λ (o : RepoOption). with_repos s.world (o ∷ others)) (sym c.repo-item.is)
          ∙ repo_made s (state_of (g.K.Keeper.kept c.admin.new.self)) c.repo-item.result others c.in-Ok.field-0 (rw c.in-Ok.is at (c.admin.ensures.does honest));
    }

pub returns : goal.returns
returns g c =
    let so_far = c.loop-repo.invariant in
    let w = (g.K.Keeper.kept c.loop-repo.service).world in
    record {
      honest = so_far.honest;
      made = λ honest. so_far.so_far honest ∙ at_drop_all (with_repos w) c.args.repos.now c.loop-repo.repo-index c.loop-repo-test.false;
    }
