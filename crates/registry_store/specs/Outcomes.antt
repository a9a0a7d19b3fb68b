-- What a crash leaves of a connection behind a write, said of a layout.
use Rattle.std.specs.Prelude.{◌≡◌, Bool, true, Result, OnOk, IfOk}
use Rattle.sqlite.specs.State as sqlite
use Rattle.oci_types.specs.declared.fault.Fault.{Fault}
use Rattle.registry_model.specs.World.{World}
use Rattle.store_contents.specs.Layouts.{Layout}
use Rattle.store_statements.specs.Between.{Outcomes}
use Rattle.store_statements.specs.Held.{SettlesOn, world_in}
use Rattle.store_writes.specs.Whole.{ToldWhereSo}

-- the world as it was, or this of it; where it was done, this
abbrev pub RowsLeave : {A : Type 0} → Layout → sqlite.State → sqlite.State → Result A Fault → (World → World)
    → Type 0
RowsLeave l old new r f =
    Outcomes old.now new (λ s. OnOk r (SettlesOn l s (f (world_in l old))))
    (λ s. SettlesOn l s (world_in l old))
    (λ s. SettlesOn l s (f (world_in l old)))

-- the world as it was, or where this was so, that of it; as the answer says, if there is one
abbrev pub RowsLeaveWhereSo : Layout → sqlite.State → sqlite.State → Result Bool Fault → (World → Bool)
    → (World → World) → Type 0
RowsLeaveWhereSo l old new r so f =
    Outcomes old.now new
    (λ s. IfOk r (λ done. ToldWhereSo l done s (world_in l old) (f (world_in l old))))
    (λ s. SettlesOn l s (world_in l old))
    (λ s. (so (world_in l old) ≡ true) × SettlesOn l s (f (world_in l old)))
