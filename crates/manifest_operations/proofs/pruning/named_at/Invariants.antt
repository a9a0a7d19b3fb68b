use Rattle.std.proofs.Common.{◌≡◌, false, take}
use Rattle.oci_types.specs.Text.{Text}
use Rattle.manifest_operations.specs.Pruning.{has, is_named_by}
use Rattle.manifest_operations.proofs.pruning.named_at.Given as goal

-- so far the set has what the manifests seen name, and nothing changed
abbrev pub invariant-loop-manifest : goal.invariant-loop-manifest
invariant-loop-manifest g l = record {
  unspent : (g.K.Keeper.kept l.keeper).spent ≡ false;
  honest : g.K.Keeper.is_honest l.keeper → g.K.Keeper.is_honest l.initial.keeper;
  same : g.K.Keeper.is_honest l.keeper → g.K.Keeper.kept l.keeper ≡ g.K.Keeper.kept l.initial.keeper;
  found : g.K.Keeper.is_honest l.keeper → (digest : Text)
      → has l.named digest ≡ is_named_by (g.K.Keeper.kept l.initial.keeper).world l.name (take l.manifest-index l.manifest-items) digest;
}
