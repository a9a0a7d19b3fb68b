use Rattle.std.proofs.Common.{◌≡◌, ◌∙◌, arith, take, map, ap, subst, rules}
use Rattle.std.proofs.lemmas.Grind.{common_steps}
use Rattle.std.proofs.lemmas.List.{map-append}
use Rattle.registry_model.proofs.RunLaws.{run_says}
use Rattle.registry_model.specs.Runs.{Takes, Shows}
use Rattle.registry_service.specs.declared.run.Step.{Step}
use Rattle.registry_model.specs.Keeping.{state_of}
use Rattle.registry_model.proofs.HeldLaws.{held_on}
use Rattle.registry_service.specs.Steps.{shown_step, shown_outcome}
use Rattle.registry_service.proofs.RunLemmas.{one_step_more}
use Rattle.registry_service.proofs.service.Service.run.Goals as goal

pub returns-clause-takes : goal.returns-clause-takes
returns-clause-takes g c honest =
    let whole : take c.loop-step.step-index c.args.steps.now ≡ c.args.steps.now = grind (arith, common_steps) in
    rw whole at (c.loop-step.invariant.takes honest)

pub returns-clause-shows : goal.returns-clause-shows
returns-clause-shows g c =
    let whole : take c.loop-step.step-index c.args.steps.now ≡ c.args.steps.now = grind (arith, common_steps) in
    rw whole at c.loop-step.invariant.shows

pub returns-clause-says : goal.returns-clause-says
returns-clause-says g c honest =
    let whole : take c.loop-step.step-index c.args.steps.now ≡ c.args.steps.now = grind (arith, common_steps) in
    run_says _ _ _ _ (rw whole at (c.loop-step.invariant.takes honest))

pub loop-step-preserved : goal.loop-step-preserved
loop-step-preserved g c = record {
  takes = λ honest. one_step_more Takes _ c.args.steps.now c.loop-step.step-index c.step-item.result _ _ _ _ _ c.loop-step-test.true
      (c.loop-step.invariant.takes (c.take-outcome.ensures.honest honest))
      (subst (λ (x : Step). Takes (state_of (g.K.Keeper.kept c.loop-step.self)) (shown_step x) (shown_outcome c.take-outcome.result) (state_of (g.K.Keeper.kept c.take-outcome.new.self)))
      c.step-item.is (c.take-outcome.ensures.takes honest))
      (ap (map shown_outcome) c.push_reserved.ensures.items ∙ map-append shown_outcome _ _);
  shows = one_step_more Shows _ c.args.steps.now c.loop-step.step-index c.step-item.result _ _ _ _ _ c.loop-step-test.true
      c.loop-step.invariant.shows
      (subst (λ (x : Step). Shows (state_of (g.K.Keeper.kept c.loop-step.self)) (shown_step x) (shown_outcome c.take-outcome.result) (state_of (g.K.Keeper.kept c.take-outcome.new.self)))
      c.step-item.is c.take-outcome.ensures.shows)
      (ap (map shown_outcome) c.push_reserved.ensures.items ∙ map-append shown_outcome _ _);
  holds = λ honest. held_on (g.K.Keeper.kept c.args.self.now) (g.K.Keeper.kept c.loop-step.self) (g.K.Keeper.kept c.take-outcome.new.self) (c.loop-step.invariant.holds (c.take-outcome.ensures.honest honest)) (c.take-outcome.ensures.holds honest);
  honest = λ honest. c.loop-step.invariant.honest (c.take-outcome.ensures.honest honest);
  count = search rules;
  room = search rules;
}
