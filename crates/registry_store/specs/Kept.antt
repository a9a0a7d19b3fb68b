-- What a store holds: a connection, where bytes are, and whether the storage has failed.
use Rattle.std.specs.Prelude.{◌≡◌, Bool, true, refl, IsTrue}
use Rattle.std.specs.Coded.{Coded, code_by, coded×, coded_bool}
use Rattle.sqlite_trees.specs.declared.store.Store.{Ghosts}
use Rattle.sqlite.specs.State.{HasCleanDisk}
use Rattle.sqlite.specs.Held.{Held, held_code, state}
use Rattle.registry_model.specs.World.{World}
use Rattle.registry_model.specs.Keeping as keeping
use Rattle.registry_model.specs.Keeping.{nothing_held}
use Rattle.store_contents.specs.Layouts.{packs_in}
use Rattle.store_statements.specs.Held.{IsSettled, world_in}
use Rattle.store_bytes.specs.declared.contents.Contents as contents
use Rattle.store_bytes.specs.Keeping.{AllPlaces}

pub record Kept (S C : Type 0) : Type 0 where
  pub conn : Held S
  pub contents : C
  pub spent : Bool

abbrev pub kept_code : {S C : Type 0} → Coded S → Coded C → Coded (Kept S C)
kept_code {S} {C} store contents =
    code_by (Held S × (C × Bool)) (coded× (held_code store) (coded× contents coded_bool))
    (λ k. (k.conn, (k.contents, k.spent)))
    (λ p. record { conn = p.0; contents = p.1.0; spent = p.1.1 }) (λ _. refl)

-- a connection, and where bytes are
abbrev pub Both : Type 0 → Type 0 → Type 0
Both S C = Held S × C

-- the two of a store
abbrev pub both : {S C : Type 0} → Kept S C → Both S C
both k = (k.conn, k.contents)

-- the world of the rows, with the bytes where they are
abbrev pub world_at : {S C : Type 0} → Ghosts S → contents.Ghosts C → Both S C → World
world_at g c it = world_in (c.layout it.1) (state g it.0)

-- so far what was written has been returned
abbrev pub IsClean : {S C : Type 0} → Ghosts S → contents.Ghosts C → Both S C → Type 0
IsClean g c it = HasCleanDisk (state g it.0) × IsTrue (c.is_clean it.1)

-- settled, and what the rows name of a pack is spared; they say which pack it is
pub record IsInOrder {S C : Type 0} (g : Ghosts S) (c : contents.Ghosts C) (it : Both S C) : Type 0 where
  pub settled : IsSettled (c.layout it.1) (state g it.0)
  pub spared : AllPlaces (c.spares it.1) (c.layout it.1) (state g it.0).now
  pub named : c.names it.1 (packs_in (c.layout it.1) (state g it.0).now)

-- what it shows of a registry
abbrev pub shown : {S C : Type 0} → Ghosts S → contents.Ghosts C → Kept S C → keeping.Kept
shown g c k = record { world = world_at g c (both k); spent = k.spent; held = nothing_held }

-- the database was ours, and so far it has returned what was written
abbrev pub IsHonest : {S C : Type 0} → Ghosts S → contents.Ghosts C → Bool → Kept S C → Type 0
IsHonest g c ours k = IsClean g c (both k) × (ours ≡ true)
