-- What a store's keeper shows after a call.
use Rattle.std.proofs.Common.{◌≡◌, Bool, true, false, subst}
use Rattle.sqlite_trees.specs.declared.store.Store.{Ghosts}
use Rattle.sqlite.specs.Held.{Held}
use Rattle.registry_model.specs.World.{World}
use Rattle.registry_model.specs.Keeping as keeping
use Rattle.registry_model.specs.Keeping.{nothing_held}
use Rattle.store_bytes.specs.declared.contents.Contents as contents
use Rattle.registry_store.specs.Kept.{Both, Kept, IsClean, both, shown, world_at}

-- what it shows of both, whether the storage has failed or not
abbrev pub shows : {S C : Type 0} → Ghosts S → contents.Ghosts C → Both S C → Bool → keeping.Kept
shows g c it spent = record { world = world_at g c it; spent = spent; held = nothing_held }

module _ {S C : Type 0} (g : Ghosts S) (c : contents.Ghosts C) (conn : Held S) (kept : C) (old : Kept S C) (spent : Bool) (is : ◌≡◌ {A = Kept S C} (record { conn = conn; contents = kept; spent = spent }) old) where
  abbrev pub here : Both S C
  here = (conn, kept)

  module _ (new : Both S C) where
    -- a write made its change
    pub wrote : (change : World → World) → spent ≡ false → world_at g c new ≡ change (world_at g c here)
        → ◌≡◌ {A = keeping.Kept} (shows g c new spent) (record { world = change (world_at g c (both old)); spent = false; held = nothing_held })
    wrote change unspent e =
        subst (λ (k : Kept S C). ◌≡◌ {A = keeping.Kept} (shows g c new spent) (record { world = change (world_at g c (both k)); spent = false; held = nothing_held })) is
        (λ i. record { world = e i; spent = unspent i; held = nothing_held })

    -- nothing changed
    pub stood : world_at g c new ≡ world_at g c here → ◌≡◌ {A = keeping.Kept} (shows g c new spent) (shown g c old)
    stood e = subst (λ (k : Kept S C). ◌≡◌ {A = keeping.Kept} (shows g c new spent) (shown g c k)) is (λ i. record { world = e i; spent = spent; held = nothing_held })

  -- a read found its value
  pub found : {A : Type 0} (look : World → A) (v : A) → v ≡ look (world_at g c here) → v ≡ look (world_at g c (both old))
  found look v e = subst (λ (k : Kept S C). v ≡ look (world_at g c (both k))) is e

  -- a read found a value of which something is so
  pub found_so : {A : Type 0} (P : World → A → Type 0) (v : A) → P (world_at g c here) v → P (world_at g c (both old)) v
  found_so P v h = subst (λ (k : Kept S C). P (world_at g c (both k)) v) is h

  -- what a caller knows of the world, said of both
  pub asked : (P : World → Type 0) (ours : Bool) → spent ≡ false → ours ≡ true → (IsClean g c (both old) × (ours ≡ true) → old.spent ≡ false → P (world_at g c (both old)))
      → IsClean g c here → P (world_at g c here)
  asked P ours unspent known h =
      subst (λ (k : Kept S C). (IsClean g c (both k) × (ours ≡ true) → k.spent ≡ false → P (world_at g c (both k))) → IsClean g c here → P (world_at g c here)) is
      (λ f clean. f (clean, known) unspent) h
