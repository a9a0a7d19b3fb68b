-- What the clauses of statements on the old tables say, of a connection before a call and after it, inside a
-- transaction over the tables of both schemas.
use Rattle.std.specs.Prelude.{Result, OnOk, IfOk}
use Rattle.sqlite_trees.specs.declared.store.Store.{Ghosts}
use Rattle.sqlite.specs.State.{HasCleanDisk, IsUnchanged, KeepsCommit}
use Rattle.sqlite.specs.Held.{Held, state}
use Rattle.store_contents.specs.Layouts.{InTables}
use Rattle.store_statements.specs.Held.{IsReady, Becomes, held}
use Rattle.store_migration.specs.OldTables.{OldTables}
use Rattle.store_migration.specs.Olds.{HasOlds, old_of, with_olds}

module _ {S : Type 0} (g : Ghosts S) (old new : Held S) where
  -- a transaction is open over the tables of both schemas
  abbrev pub OverBoth : Type 0 → Type 0
  OverBoth P = HasCleanDisk (state g new) → IsReady InTables (state g old)
      → HasOlds (held InTables (state g old)) → P

  -- the value is this of the old tables before
  abbrev pub FindsOld : {A E : Type 0} → Result A E → (OldTables → A → Type 0) → Type 0
  FindsOld r P = OverBoth (IfOk r (λ v. P (old_of (held InTables (state g old))) v))

  -- nothing changed
  abbrev pub ChangesNothingOld : {A E : Type 0} → Result A E → Type 0
  ChangesNothingOld r = OverBoth (OnOk r (IsUnchanged (state g old) (state g new)))

  -- nothing was committed
  abbrev pub KeepsOld : Type 0
  KeepsOld = OverBoth (KeepsCommit (state g old) (state g new))

  -- the old tables are this of those before, and the others are as they were
  abbrev pub ChangesOld : {A E : Type 0} → Result A E → (OldTables → OldTables) → Type 0
  ChangesOld r f =
      OverBoth
      (OnOk r (Becomes InTables (state g new)
      (with_olds (held InTables (state g old)) (f (old_of (held InTables (state g old)))))))
