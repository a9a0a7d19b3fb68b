use Rattle.std.proofs.Common.{◌≡◌, true, false, take}
use Rattle.manifest_operations.specs.Push.{has_needs_at}
use Rattle.manifest_operations.proofs.manifest_push.has_needs.Given as goal

-- so far every needed blob was found, and nothing changed
abbrev pub invariant-loop-digest : goal.invariant-loop-digest
invariant-loop-digest g l = record {
  unspent : (g.K.Keeper.kept l.keeper).spent ≡ false;
  honest : g.K.Keeper.is_honest l.keeper → g.K.Keeper.is_honest l.fn.keeper;
  same : g.K.Keeper.is_honest l.keeper → g.K.Keeper.kept l.keeper ≡ g.K.Keeper.kept l.fn.keeper;
  found : g.K.Keeper.is_honest l.keeper → has_needs_at (g.K.Keeper.kept l.fn.keeper).world l.name (take l.digest-index l.needs) ≡ true;
}
