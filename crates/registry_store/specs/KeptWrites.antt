-- What the writes of a store say as a keeper's, of the store before a call and after it.
use Rattle.std.specs.Prelude.{◌≡◌, Bool, true, false, Result, IfOk}
use Rattle.sqlite_trees.specs.declared.store.Store.{Ghosts}
use Rattle.sqlite.specs.Held.{state}
use Rattle.oci_types.specs.declared.fault.Fault.{Fault}
use Rattle.registry_model.specs.World.{World}
use Rattle.registry_model.specs.Keeping.{Writes, WritesBy, Spends}
use Rattle.registry_model.specs.Closing.{WritesWhereSo}
use Rattle.store_contents.specs.Layouts.{Layout}
use Rattle.store_bytes.specs.declared.contents.Contents as contents
use Rattle.store_statements.specs.Between.{Outcomes}
use Rattle.store_statements.specs.Held.{SettlesOn}
use Rattle.store_writes.specs.Whole.{ToldWhereSo}
use Rattle.registry_store.specs.Kept.{Both, Kept, IsHonest, both, shown, world_at}
use Rattle.registry_store.specs.Calls.{Leaves}

-- A crash leaves the world as it was, or where this was so, that of it; as the answer says, if there is one.
abbrev pub LeavesWhereSo : {S C : Type 0} → Ghosts S → contents.Ghosts C → Both S C → Both S C
    → Result Bool Fault → (World → Bool) → (World → World) → Type 0
LeavesWhereSo g c old new r so f =
    (m : Layout) → c.may_leave new.1 m
    → Outcomes (state g old.0).now (state g new.0)
    (λ s. IfOk r (λ done. ToldWhereSo m done s (world_at g c old) (f (world_at g c old))))
    (λ s. SettlesOn m s (world_at g c old))
    (λ s. (so (world_at g c old) ≡ true) × SettlesOn m s (f (world_at g c old)))

-- What a keeper's write says. Of a store that is honest and was not spent, a crash at any moment of the call
-- leaves no more than this; one that was spent is not touched.
pub record IsOneWrite {S C : Type 0} (g : Ghosts S) (c : contents.Ghosts C) (ours : Bool) (old new : Kept S C)
    {A : Type 0} (r : Result A Fault) (Made Left : Type 0) : Type 0 where
  pub made : IsHonest g c ours new → Made
  pub spends : Spends r (shown g c old) (shown g c new)
  pub honest : IsHonest g c ours new → IsHonest g c ours old
  pub crash : IsHonest g c ours new → old.spent ≡ false → Left
  pub idle : old.spent ≡ true → new ≡ old

module _ {S C : Type 0} (g : Ghosts S) (c : contents.Ghosts C) (ours : Bool) (old : Kept S C) where
  -- what a write asks: this is so of the world, where the store is honest and not spent
  abbrev pub AsksOf : (World → Type 0) → Type 0
  AsksOf P = IsHonest g c ours old → old.spent ≡ false → P (shown g c old).world

  module _ (new : Kept S C) where
    -- it leads to this world
    abbrev pub WritesOnce : {A : Type 0} → Result A Fault → (World → World) → Type 0
    WritesOnce r f =
        IsOneWrite g c ours old new r (Writes r (f (shown g c old).world) (shown g c old) (shown g c new))
        (Leaves g c (both old) (both new) r f)

    -- and tells this of the one before
    abbrev pub WritesOnceBy : {A : Type 0} → Result A Fault → (World → A) → (World → World) → Type 0
    WritesOnceBy {A} r look f =
        IsOneWrite g c ours old new r
        (WritesBy {A = A} {B = A} (λ v. v) r (look (shown g c old).world) (f (shown g c old).world)
        (shown g c old) (shown g c new))
        (Leaves g c (both old) (both new) r f)

    -- or is made only where this is so
    abbrev pub WritesOnceWhereSo : Result Bool Fault → (World → Bool) → (World → World) → Type 0
    WritesOnceWhereSo r so f =
        IsOneWrite g c ours old new r
        (WritesWhereSo r (so (shown g c old).world) (f (shown g c old).world) (shown g c old) (shown g c new))
        (LeavesWhereSo g c (both old) (both new) r so f)
