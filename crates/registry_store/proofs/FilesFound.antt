-- What an open found in the files is the database of the store.
use Rattle.std.proofs.Common.{◌≡◌, ◌∙◌, Result, Ok, Err, IfOk, ap, subst, sym}
use Rattle.std.specs.Prelude.{⊤}
use Rattle.sqlite.specs.Effect.{Database}
use Rattle.sqlite.specs.Files.{AreFoundIn}
use Rattle.sqlite.specs.Start.{FindsIn}
use Rattle.sqlite.specs.State.{State, HasCleanDisk, Survives, Opens, IsLive}
use Rattle.sqlite_wal.specs.Recovery.{Image}
use Rattle.registry_model.specs.World.{no_world}
use Rattle.store_contents.specs.Layouts.{InTables}
use Rattle.store_schema.specs.Schema.{no_schema}
use Rattle.store_schema.specs.Making.{IsEmptyWith}
use Rattle.store_statements.specs.Held.{world_in}
use Rattle.store_opening.specs.Opening.{IsIdle, HoldsRegistry}
use Rattle.store_reads.proofs.CleanBefore.{was_clean}
use Rattle.registry_store.specs.Opening.{MayFind, WereOurs, IsOurs, OpensOn}

pub found_now : (image : Image) (s : State) → Opens s → FindsIn image s → MayFind image s.now.trees
found_now image s opens it = record {
  holds = λ db held. ap (λ (d : Database). d.trees) opens.clean ∙ it.holds db held;
  reads = subst (λ (d : Database). AreFoundIn image d.trees) (sym opens.clean) it.reads;
}

pub found_ours : (image : Image) (s : State) → WereOurs image → Opens s → IsLive s → FindsIn image s → IsOurs s.now
found_ours image s were opens live it = were s.now (live opens.is_open).0 (found_now image s opens it)

pub told_of : {C E : Type 0} (P : C → Type 0) (r : Result C E) (conn : C) → r ≡ Ok conn → IfOk r P → P conn
told_of P r conn same h = subst (λ x. IfOk x P) same h

pub idle : (s : State) → Opens s → IsIdle s
idle s it = record { is_open = it.is_open; autocommit = it.autocommit; committed = it.clean }

-- a connection that an open gave may be taken up
pub may_take_up : (image : Image) (s : State) → WereOurs image → (HasCleanDisk s → Opens s × IsLive s) → (HasCleanDisk s → FindsIn image s) → HasCleanDisk s → IsIdle s × IsOurs s.now
may_take_up image s were opened finds clean = by (opened clean)
  where
    by : Opens s × IsLive s → IsIdle s × IsOurs s.now
    by it = (idle s it.0, found_ours image s were it.0 it.1 (finds clean))

-- the store that was made over it is one that was opened on the files
pub opens_on : {C E : Type 0} (seen : C → State) (image : Image) (s : State) → (HasCleanDisk s → Opens s × IsLive s) → (HasCleanDisk s → FindsIn image s) → (r : Result C E)
    → IfOk r (λ c. HasCleanDisk (seen c) → IsEmptyWith no_schema s.now → world_in InTables (seen c) ≡ no_world)
    → IfOk r (λ c. HasCleanDisk (seen c) → IsIdle s → HoldsRegistry s.now → (seen c).now ≡ s.now)
    → IfOk r (λ c. Survives s (seen c) (λ _. ⊤)) → IfOk r (λ c. HasCleanDisk (seen c) → OpensOn image (seen c).now)
opens_on seen image s opened finds (Ok c) made found lasts = λ clean. by clean (was_clean s (seen c) lasts clean)
  where
    from : HasCleanDisk (seen c) → HasCleanDisk s → Opens s × IsLive s → OpensOn image (seen c).now
    from clean early it = (s.now, (it.1 it.0.is_open).0, found_now image s it.0 (finds early), made clean, λ h. found clean (idle s it.0) h)

    by : HasCleanDisk (seen c) → HasCleanDisk s → OpensOn image (seen c).now
    by clean early = from clean early (opened early)
opens_on seen image s opened finds (Err e) made found lasts = tt
