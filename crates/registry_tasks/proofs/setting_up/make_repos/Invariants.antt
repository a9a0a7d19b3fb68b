use Rattle.std.proofs.Common.{◌≡◌, drop}
use Rattle.registry_orders.specs.Setting.{with_repos}
use Rattle.registry_tasks.proofs.setting_up.make_repos.Given as goal

-- the repositories that are left make of this world what all make of the first
abbrev pub invariant-loop-repo : goal.invariant-loop-repo
invariant-loop-repo g l = record {
  honest : g.K.Keeper.is_honest l.service → g.K.Keeper.is_honest l.fn.service;
  so_far : g.K.Keeper.is_honest l.service → with_repos (g.K.Keeper.kept l.fn.service).world l.repos ≡ with_repos (g.K.Keeper.kept l.service).world (drop l.repo-index l.repos);
}
