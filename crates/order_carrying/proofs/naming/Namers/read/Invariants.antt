use Rattle.std.proofs.Common.{◌≡◌, false, map, take}
use Rattle.oci_types.specs.Text.{Text}
use Rattle.order_carrying.specs.Reading.{naming_at, namers_among}
use Rattle.order_carrying.specs.Naming.{namers_in}
use Rattle.order_carrying.proofs.naming.Namers.read.Given as goal

-- so far there are the manifests seen, and nothing changed
abbrev pub invariant-loop-manifest : goal.invariant-loop-manifest
invariant-loop-manifest g l = record {
  unspent : (g.K.Keeper.kept l.service).spent ≡ false;
  honest : g.K.Keeper.is_honest l.service → g.K.Keeper.is_honest l.initial.service;
  same : g.K.Keeper.is_honest l.service → g.K.Keeper.kept l.service ≡ g.K.Keeper.kept l.initial.service;
  found : g.K.Keeper.is_honest l.service → (digest : Text)
      → namers_in l.namers digest ≡ namers_among (map (naming_at (g.K.Keeper.kept l.initial.service).world l.name) (take l.manifest-index l.manifest-items)) digest;
}
