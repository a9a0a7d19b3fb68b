-- A session that ends unread.
use Rattle.std.proofs.Common.{◌≡◌, ◌∙◌, Bool, true, false, Ok, Err, Result, OnOk, IfOk, ap, sym, subst}
use Rattle.std.specs.Prelude.{⊤}
use Rattle.sqlite_trees.specs.declared.store.Store.{Ghosts}
use Rattle.sqlite.specs.Effect.{Database}
use Rattle.sqlite.specs.State.{HasCleanDisk}
use Rattle.sqlite.specs.Held.{Held, state}
use Rattle.oci_types.specs.declared.fault.Fault.{Fault}
use Rattle.registry_model.specs.World.{World}
use Rattle.store_contents.specs.Layouts.{Layout}
use Rattle.store_bytes.specs.declared.contents.Contents as contents
use Rattle.store_bytes.specs.Keeping.{AreOfKind}
use Rattle.store_bytes.proofs.OfKind.{of_own_kind}
use Rattle.store_statements.specs.Between as between
use Rattle.store_statements.specs.Between.{Relates}
use Rattle.store_statements.specs.Held.{IsSettled, SettlesOn, held, tables_in, world_in}
use Rattle.store_statements.specs.PlaceChanges.{KeepsPlaces}
use Rattle.store_statements.specs.World.{world_of}
use Rattle.store_writes.specs.Whole as whole
use Rattle.registry_store.specs.Kept.{IsClean, IsInOrder, world_at}
use Rattle.registry_store.specs.Calls.{DoneWhereSo, StaysKnowing, StaysOnMemory}
use Rattle.registry_store.specs.KeptWrites.{LeavesWhereSo}
use Rattle.registry_store.specs.Outcomes.{RowsLeaveWhereSo}
use Rattle.registry_store.specs.Usages.{IsKnown, StaysKnown}
use Rattle.registry_store.specs.declared.known_usages.KnownUsages.{KnownUsages}
use Rattle.registry_store.proofs.RowCalls.{next_order, remembered, rows_know, rows_want, same_order, settled_left}

-- what is said of rows is said of every layout of the kind
module _ {S C : Type 0} (g : Ghosts S) (c : contents.Ghosts C) (kept : C) (old new : Held S) (r : Result Bool Fault) where
  abbrev pub OfKind : (Layout → Type 0) → Type 0
  OfKind P = (l : Layout) → AreOfKind (c.layout kept) l → P l

  own : (P : Layout → Type 0) → OfKind P → P (c.layout kept)
  own P all = all (c.layout kept) (of_own_kind (c.layout kept))

  pub known_made : (so : World → Bool) (f : World → World)
      → OfKind (λ l. HasCleanDisk (state g new) → IsSettled l (state g old) → IfOk r (λ done. whole.DoneWhereSo l done (state g old) (state g new) so f))
      → OfKind (λ l. Relates g l old new r KeepsPlaces) → IsClean g c (new, kept) → IsInOrder g c (old, kept) → IfOk r (λ done. DoneWhereSo g c (old, kept) (new, kept) done so f)
  known_made so f makes places clean is = by r (makes (c.layout kept) (of_own_kind (c.layout kept)) clean.0 is.settled) (places (c.layout kept) (of_own_kind (c.layout kept)) clean.0 is.settled)
    where
      by : (x : Result Bool Fault) → IfOk x (λ done. whole.DoneWhereSo (c.layout kept) done (state g old) (state g new) so f) → OnOk x (KeepsPlaces (held (c.layout kept) (state g old)) (held (c.layout kept) (state g new)))
          → IfOk x (λ done. DoneWhereSo g c (old, kept) (new, kept) done so f)
      by (Ok true) made keeps = (made.0, (next_order g c kept old new is made.1.0 keeps, made.1.1))
      by (Ok false) same keeps = (same_order g c kept old new is same.0 same.1, ap (λ (d : Database). world_of (tables_in (c.layout kept) d)) same.1)
      by (Err e) made keeps = tt

  pub known_wanted : OfKind (λ l. between.StaysOnMemory g l old new r) → StaysOnMemory g c (old, kept) (new, kept) r
  known_wanted stays = rows_want g c kept old new r (λ _. ⊤) (λ _. own (λ l. between.StaysOnMemory g l old new r) stays) (λ _. tt)

  pub known_left : (so : World → Bool) (f : World → World)
      → OfKind (λ l. HasCleanDisk (state g new) → IsSettled l (state g old) → RowsLeaveWhereSo l (state g old) (state g new) r so f)
      → IsClean g c (new, kept) → IsInOrder g c (old, kept) → LeavesWhereSo g c (old, kept) (new, kept) r so f
  known_left so f crash clean is m may =
      let kind = (c.lasts kept m may (state g old).now (remembered g c c.remembers_spared (old, kept) is)).kind in
      let left = settled_left g c c.lasts c.remembers_spared (old, kept) is m may in
      let same : world_in m (state g old) ≡ world_at g c (old, kept) = ap world_of left.1 in
      subst (λ (w : World). between.Outcomes (state g old).now (state g new) (λ s. IfOk r (λ done. whole.ToldWhereSo m done s w (f w))) (λ s. SettlesOn m s w) (λ s. (so w ≡ true) × SettlesOn m s (f w))) same
      (crash m kind clean.0 left.0)

  pub known_follows : (known knew : KnownUsages) → OfKind (λ l. IsKnown g l old known → StaysKnown g l old new knew r) → (IsClean g c (new, kept) → IsClean g c (old, kept)) → StaysKnowing g c (old, kept) (new, kept) r known knew
  known_follows known knew follows early = rows_know g c kept old new r known knew (λ _. ⊤) (λ k _. own (λ l. IsKnown g l old known → StaysKnown g l old new knew r) follows k) (λ _. tt) early
