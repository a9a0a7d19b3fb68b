use Rattle.sqlite.specs.Held.{state}
use Rattle.std.specs.Prelude.{⊤, IfSome, take}
use Rattle.sqlite.specs.State.{HasCleanDisk, Survives}
use Rattle.registry_model.specs.Pruning.{without_blobs}
use Rattle.store_contents.specs.Layouts.{Layout}
use Rattle.store_statements.specs.Held.{IsSettled, StaysSettled, world_in}
use Rattle.store_reads.specs.Usages.{Foretells}
use Rattle.store_reads.proofs.deletion_lookups.ascending_blobs_change.Given as goal

-- nothing has changed, and the change so far is told
abbrev pub invariant-loop-digest : goal.invariant-loop-digest
invariant-loop-digest g l =
    let old = state g.S.Store l.fn.conn in
    let now = state g.S.Store l.conn in
    record {
      survives : Survives old now (λ _. ⊤);
      settled : (layout : Layout) → HasCleanDisk now → IsSettled layout old → StaysSettled layout old now;
      told : (layout : Layout) → HasCleanDisk now → IsSettled layout old → IfSome l.change (Foretells (world_in layout old) l.repo (λ r. without_blobs r (take l.digest-index l.digests)));
    }
