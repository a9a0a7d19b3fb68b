use Rattle.std.proofs.Common.{◌≡◌, false}
use Rattle.std.specs.List.{filter_map}
use Rattle.oci_types.specs.Text.{Text}
use Rattle.registry_model.specs.Pruning.{is_among}
use Rattle.order_texts.specs.Items.{items_shown}
use Rattle.order_carrying.specs.Reading.{namings_at, blob_item_at}
use Rattle.order_carrying.specs.Naming.{namers_in}
use Rattle.order_carrying.proofs.reading.blobs.Given as goal

-- so far each blob that has a length has its item, the manifests of the others are still there, and nothing
-- changed
abbrev pub invariant-loop-digest : goal.invariant-loop-digest
invariant-loop-digest g l = record {
  unspent : (g.K.Keeper.kept l.service).spent ≡ false;
  honest : g.K.Keeper.is_honest l.service → g.K.Keeper.is_honest l.initial.service;
  same : g.K.Keeper.is_honest l.service → g.K.Keeper.kept l.service ≡ g.K.Keeper.kept l.initial.service;
  left : (digest : Text) → is_among l.yielded digest ≡ false → namers_in l.namers digest ≡ namers_in l.initial.namers digest;
  found : g.K.Keeper.is_honest l.service
      → items_shown l.items ≡ filter_map (blob_item_at (g.K.Keeper.kept l.initial.service).world l.name (namings_at (g.K.Keeper.kept l.initial.service).world l.name)) l.yielded;
}
