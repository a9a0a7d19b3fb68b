use Rattle.std.proofs.Common.{◌≡◌, ◌≤◌, length, take, map, vec_len, vec_capacity}
use Rattle.registry_model.specs.Runs.{TakesAll, ShowsAll}
use Rattle.registry_model.specs.Keeping.{HeldStays, state_of}
use Rattle.registry_service.specs.Steps.{shown_step, shown_outcome}
use Rattle.registry_service.proofs.service.Service.run.Given as goal

-- the outcomes so far are those of the steps so far
abbrev pub invariant-loop-step : goal.invariant-loop-step
invariant-loop-step g l = record {
  takes : g.K.Keeper.is_honest l.self → TakesAll (state_of (g.K.Keeper.kept l.fn.self)) (map shown_step (take l.step-index l.steps)) (map shown_outcome l.outcomes.items) (state_of (g.K.Keeper.kept l.self));
  shows : ShowsAll (state_of (g.K.Keeper.kept l.fn.self)) (map shown_step (take l.step-index l.steps)) (map shown_outcome l.outcomes.items) (state_of (g.K.Keeper.kept l.self));
  holds : g.K.Keeper.is_honest l.self → HeldStays (g.K.Keeper.kept l.fn.self) (g.K.Keeper.kept l.self);
  honest : g.K.Keeper.is_honest l.self → g.K.Keeper.is_honest l.fn.self;
  count : vec_len l.outcomes ≡ l.step-index;
  room : length l.steps ≤ vec_capacity l.outcomes;
}
