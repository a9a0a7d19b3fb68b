-- What the clauses of calls say of a connection and of where bytes are together, before a call and after it.
-- Each holds where what was written has been returned, and both were in order.
use Rattle.std.specs.Prelude.{◌≡◌, ℤ, Bool, true, false, None, Result, Err, OnOk, IfOk, if◌then◌else◌}
use Rattle.sqlite_trees.specs.declared.store.Store.{Ghosts}
use Rattle.sqlite.specs.Held.{state}
use Rattle.oci_types.specs.declared.fault.Fault.{Fault}
use Rattle.oci_types.specs.declared.fault.Fault.TheVariants.{Memory}
use Rattle.registry_model.specs.World.{World}
use Rattle.store_contents.specs.Layouts.{Layout}
use Rattle.store_bytes.specs.declared.contents.Contents as contents
use Rattle.store_statements.specs.Between.{Outcomes}
use Rattle.store_statements.specs.Held.{SettlesOn, held, is_storage}
use Rattle.store_writes.specs.Naming.{is_named}
use Rattle.registry_store.specs.declared.known_usages.KnownUsages.{KnownUsages}
use Rattle.registry_store.specs.Usages.{Knows}
use Rattle.registry_store.specs.Kept.{Both, IsClean, IsInOrder, world_at}

-- this is so of the world, where what was written has been returned
abbrev pub WorldHas : {S C : Type 0} → Ghosts S → contents.Ghosts C → Both S C → (World → Type 0) → Type 0
WorldHas g c it P = IsClean g c it → P (world_at g c it)

abbrev WhetherDone : Bool → Bool → Type 0 → Type 0 → Type 0
WhetherDone true so Made Same = (so ≡ true) × Made
WhetherDone false so Made Same = Same

module _ {S C : Type 0} (g : Ghosts S) (c : contents.Ghosts C) (old new : Both S C) where
  -- unless the storage failed, both are in order, with the same world
  abbrev pub Stays : {A : Type 0} → Result A Fault → Type 0
  Stays r =
      IsClean g c new → IsInOrder g c old → is_storage r ≡ false
      → IsInOrder g c new × (world_at g c new ≡ world_at g c old)

  -- the value is this of the world before
  abbrev pub Tells : {A : Type 0} → Result A Fault → (World → A → Type 0) → Type 0
  Tells r P = IsClean g c new → IsInOrder g c old → IfOk r (P (world_at g c old))

  -- both are in order, and the world is this of the one before
  abbrev pub Makes : {A : Type 0} → Result A Fault → (World → World) → Type 0
  Makes r f =
      IsClean g c new → IsInOrder g c old
      → OnOk r (IsInOrder g c new × (world_at g c new ≡ f (world_at g c old)))

  -- where memory was wanting both are in order, with the same world
  abbrev pub StaysOnMemory : {A : Type 0} → Result A Fault → Type 0
  StaysOnMemory r =
      IsClean g c new → IsInOrder g c old → r ≡ Err Memory
      → IsInOrder g c new × (world_at g c new ≡ world_at g c old)

  -- A crash leaves the world as it was, or this of it, in each outcome of the database with each of where
  -- bytes are; where it was done, this.
  abbrev pub Leaves : {A : Type 0} → Result A Fault → (World → World) → Type 0
  Leaves r f =
      (m : Layout) → c.may_leave new.1 m
      → Outcomes (state g old.0).now (state g new.0) (λ s. OnOk r (SettlesOn m s (f (world_at g c old))))
      (λ s. SettlesOn m s (world_at g c old)) (λ s. SettlesOn m s (f (world_at g c old)))

  -- it was made where this was so, or nothing changed
  abbrev pub DoneWhereSo : Bool → (World → Bool) → (World → World) → Type 0
  DoneWhereSo done so f = WhetherDone done (so (world_at g c old))
      (IsInOrder g c new × (world_at g c new ≡ f (world_at g c old)))
      (IsInOrder g c new × (world_at g c new ≡ world_at g c old))

  abbrev pub CrashLeaves : {A : Type 0} → Result A Fault → (World → World) → Type 0
  CrashLeaves r f = IsClean g c new → IsInOrder g c old → Leaves r f

  -- unless the storage failed, what is known of usages is the world's own, if it was so before
  abbrev pub StaysKnowing : {A : Type 0} → Result A Fault → KnownUsages → KnownUsages → Type 0
  StaysKnowing r known knew =
      Knows known (world_at g c old) → IsClean g c new → IsInOrder g c old → is_storage r ≡ false
      → Knows knew (world_at g c new)

-- exactly the contents stay that are named
abbrev pub IsFreed : {S C : Type 0} → Ghosts S → contents.Ghosts C → Both S C → Both S C → Type 0
IsFreed g c old new =
    (id : ℤ) → (held (c.layout new.1) (state g new.0)).contents id
    ≡ (if is_named (held (c.layout old.1) (state g old.0)) id
    then (held (c.layout old.1) (state g old.0)).contents id else None)

abbrev pub Frees : {S C : Type 0} → Ghosts S → contents.Ghosts C → Both S C → Both S C → {A : Type 0}
    → Result A Fault → Type 0
Frees g c old new r = IsClean g c new → IsInOrder g c old → OnOk r (IsFreed g c old new)
