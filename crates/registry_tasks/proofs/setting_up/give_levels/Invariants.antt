use Rattle.std.proofs.Common.{◌≡◌, drop}
use Rattle.registry_orders.specs.Setting.{with_levels}
use Rattle.registry_tasks.proofs.setting_up.give_levels.Given as goal

-- the levels that are left make of this world what all make of the first
abbrev pub invariant-loop-grant : goal.invariant-loop-grant
invariant-loop-grant g l = record {
  honest : g.K.Keeper.is_honest l.service → g.K.Keeper.is_honest l.fn.service;
  so_far : g.K.Keeper.is_honest l.service → with_levels (g.K.Keeper.kept l.fn.service).world l.grants ≡ with_levels (g.K.Keeper.kept l.service).world (drop l.grant-index l.grants);
}
