-- A call behind a look-up that changed nothing: what it says of the connection between them, said of the one before.
use Rattle.std.proofs.Common.{Result, OnOk, IfOk}
use Rattle.sqlite_trees.specs.declared.store.Store.{Ghosts}
use Rattle.sqlite.specs.State.{HasCleanDisk}
use Rattle.sqlite.specs.Held.{Held, state}
use Rattle.oci_types.specs.declared.fault.Fault.{Fault}
use Rattle.registry_model.specs.World.{World}
use Rattle.store_contents.specs.Layouts.{Layout}
use Rattle.store_statements.specs.Held.{IsSettled, StaysSettled, SettlesOn, world_in}
use Rattle.store_statements.specs.Between.{Keeps, Tells, Stays, StaysOnMemory, MakesWorld}
use Rattle.store_statements.specs.Clauses.{Lasts, WorldHas}
use Rattle.store_statements.proofs.Crashes.{kept_then}
use Rattle.store_statements.proofs.SettledAfter.{stays_then}
use Rattle.store_reads.proofs.CleanBefore.{was_clean}
use Rattle.store_reads.proofs.Foretold.{earlier, later}

module _ {l : Layout} {S : Type 0} (g : Ghosts S) (old mid : Held S) (stays : HasCleanDisk (state g mid) → IsSettled l (state g old) → StaysSettled l (state g old) (state g mid)) where
  -- what was found of the world is so of it still
  pub found_behind : (P : World → Type 0) → IsSettled l (state g old) → (HasCleanDisk (state g mid) → P (world_in l (state g old))) → WorldHas g l mid P
  found_behind P is so clean = later l P (state g old) (state g mid) (stays clean is).1 (so clean)

  -- and what was so before
  pub so_behind : (P : World → Type 0) → Lasts g old mid → IsSettled l (state g old) → WorldHas g l old P → WorldHas g l mid P
  so_behind P lasts is so = found_behind P is (λ clean. so (was_clean (state g old) (state g mid) lasts clean))

  module _ (new : Held S) (lasts : Lasts g mid new) where
    step : HasCleanDisk (state g new) → IsSettled l (state g old) → StaysSettled l (state g old) (state g mid)
    step clean is = stays (was_clean (state g mid) (state g new) lasts clean) is

    pub tells_behind : {A : Type 0} (r : Result A Fault) (P : World → A → Type 0) → Tells g l mid new r P → Tells g l old new r P
    tells_behind r P told clean is = by (step clean is)
      where
        by : StaysSettled l (state g old) (state g mid) → IfOk r (λ v. P (world_in l (state g old)) v)
        by s = earlier l (λ w. IfOk r (λ v. P w v)) (state g old) (state g mid) s.1 (told clean s.0)

    pub makes_behind : {A : Type 0} (r : Result A Fault) (f : World → World) → MakesWorld g l mid new r f → MakesWorld g l old new r f
    makes_behind r f made clean is = by (step clean is)
      where
        by : StaysSettled l (state g old) (state g mid) → OnOk r (SettlesOn l (state g new) (f (world_in l (state g old))))
        by s = earlier l (λ w. OnOk r (SettlesOn l (state g new) (f w))) (state g old) (state g mid) s.1 (made clean s.0)

    after : StaysSettled l (state g old) (state g mid) → (IsSettled l (state g mid) → StaysSettled l (state g mid) (state g new)) → StaysSettled l (state g old) (state g new)
    after s then = stays_then (state g old) (state g mid) (state g new) s (then s.0)

    pub stays_behind : {A : Type 0} (r : Result A Fault) → Stays g l mid new r → Stays g l old new r
    stays_behind r then clean is sound = after (step clean is) (λ s. then clean s sound)

    pub memory_behind : {A : Type 0} (r : Result A Fault) → StaysOnMemory g l mid new r → StaysOnMemory g l old new r
    memory_behind r then clean is wanting = after (step clean is) (λ s. then clean s wanting)

    pub kept_behind : Keeps g l mid new → Keeps g l old new
    kept_behind kept clean is =
        let s = step clean is in
        kept_then (state g old) (state g mid) (state g new) is s (kept clean s.0)
