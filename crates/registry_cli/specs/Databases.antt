-- The registry that an opening finds in database files.
use Rattle.std.specs.Prelude.{◌≡◌, ℕ, List, Bool, true, false}
use Rattle.sqlite.specs.Effect.{Database}
use Rattle.sqlite_wal.specs.Recovery.{Image}
use Rattle.registry_model.specs.Keeping.{Kept, nothing_held}
use Rattle.registry_orders.specs.declared.layout.Layout as choice
use Rattle.registry_orders.specs.declared.layout.Layout.TheVariants.{Tables, Beside}
use Rattle.store_contents.specs.Layouts.{Layout}
use Rattle.store_statements.specs.World.{world_of}
use Rattle.store_statements.specs.Held.{tables_in}
use Rattle.layout_opening.specs.Opening.{OpensIn}

-- what a store keeps that is opened on the files: its world is that of the tables, as they are then, with the
-- bytes where they are, and it holds nothing beside it
abbrev pub MayOpen : Image → List ℕ → Kept → Type 0
MayOpen image file s =
    (s.spent ≡ false) × (s.held ≡ nothing_held) × (beside : Bool) × (l : Layout) × (now : Database)
    × OpensIn image file beside l now × (s.world ≡ world_of (tables_in l now))

-- whether a new registry is to have its contents beside its database
abbrev pub is_beside : choice.Layout → Bool
is_beside Tables = false
is_beside Beside = true
