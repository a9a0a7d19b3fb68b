-- Tables underway, after what leaves the old rows, and after what was only read.
use Rattle.std.proofs.Common.{◌≡◌, true, None, Some, refl, sym, subst, Result, OnOk, inl, arith}
use Rattle.std.specs.Prelude.{Option, option_map, is_some, IsTrue}
use Rattle.sqlite.specs.Effect.{Database}
use Rattle.sqlite.specs.State.{State, IsUnchanged, KeepsCommit, Survives}
use Rattle.store_schema.specs.Rows.{HaveIds}
use Rattle.store_contents.specs.Layouts.{InTables}
use Rattle.store_statements.specs.Tables.{Tables, Beside}
use Rattle.store_statements.specs.Held.{IsReady, HoldsTables, held, tables_in}
use Rattle.store_migration.specs.OldTables.{OldTables}
use Rattle.store_migration.specs.Olds.{KnowsOld, HasOlds, AreOldRows, olds_of}
use Rattle.store_migration.specs.Moving.{IsUnderway, Moves}

pub olds_kept : (t u : Tables) → HasOlds t → u.beside ≡ t.beside → u.version ≡ t.version → HasOlds u
olds_kept t u o b v = record {
  known = subst (λ (x : Beside). KnowsOld x.schema) (sym b) o.known;
  version = subst HaveIds (sym v) o.version;
  rows = subst (λ (x : Beside). AreOldRows (olds_of x)) (sym b) o.rows;
}

-- ---- it was only read

pub ready_read : (old new : State) → IsReady InTables old → IsUnchanged old new → IsReady InTables new
ready_read old new is u = record { inside = subst IsTrue (sym u.0.mode) is.inside; holds = subst (HoldsTables InTables) (sym u.0.now_is) is.holds }

pub underway_read : (old new : State) → IsUnderway (held InTables old) → IsUnchanged old new → IsUnderway (held InTables new)
underway_read old new under u = subst (λ (d : Database). IsUnderway (tables_in InTables d)) (sym u.0.now_is) under

pub moved_read : {A E : Type 0} (old mid new : State) (f : OldTables → OldTables) (r : Result A E) → IsUnchanged old mid → OnOk r (IsReady InTables new × Moves f (held InTables mid) (held InTables new)) → OnOk r (IsReady InTables new × Moves f (held InTables old) (held InTables new))
moved_read old mid new f r u h = subst (λ (d : Database). OnOk r (IsReady InTables new × Moves f (tables_in InTables d) (held InTables new))) u.0.now_is h

-- ---- nothing was done

pub keeps_still : (s : State) → KeepsCommit s s
keeps_still s = record { was_open = λ open_now. open_now; committed = λ open_now. refl }

pub survives_still : (s : State) → Survives s s (λ _. ⊥)
survives_still s = record { clean = omega arith; shield = λ x. x; counts = omega arith; limit = refl; closes = λ clean open_now. inl open_now; crash = λ clean db may. inl may }

-- ---- what is found of a row

pub some_of : {X Y : Type 0} (f : X → Y) (o : Option X) (y : Y) → option_map f o ≡ Some y → is_some o ≡ true
some_of f None y e = absurd (let x = e in cc)
some_of f (Some x) y e = refl

pub none_of : {X Y : Type 0} (f : X → Y) (o : Option X) → None ≡ option_map f o → o ≡ None
none_of f None e = refl
none_of f (Some x) e = absurd (let y = e in cc)
