-- How a migration is refused.
use Rattle.std.specs.Prelude.{◌≡◌, ◌≢◌, ◌⊎◌, ℤ, pos, ⊤, Result, OnOk, IfOk, IfErr}
use Rattle.sqlite_trees.specs.declared.store.Store.{Ghosts}
use Rattle.sqlite.specs.Effect.{Database}
use Rattle.sqlite.specs.Tree.{Trees}
use Rattle.sqlite.specs.State.{State, HasCleanDisk}
use Rattle.sqlite.specs.Held.{Held, state}
use Rattle.registry_model.specs.World.{World}
use Rattle.store_contents.specs.Layouts.{InTables}
use Rattle.store_statements.specs.Held.{SettlesOn, reopened}
use Rattle.store_opening.specs.declared.opening.OpenFault.{OpenFault}
use Rattle.store_opening.specs.declared.opening.OpenFault.TheVariants.{Schema}
use Rattle.store_opening.specs.Opening.{IsIdle}
use Rattle.store_opening.specs.Asking.{IsOfSchema}
use Rattle.store_migration.specs.OldFile.{HoldsOldRegistry, old_world_in}
use Rattle.store_migration.specs.declared.migration.Known.{Known}
use Rattle.store_migration.specs.declared.migration.Known.TheVariants.{One, Two}

abbrev pub number_of : Known → ℤ
number_of One = pos 1
number_of Two = pos 2

-- of what was found, it is the fault, or a number that is neither
abbrev pub IsRefused : Result ℤ OpenFault → OpenFault → Type 0
IsRefused found e =
    IfOk found (λ n. (n ≢ pos 1) × (n ≢ pos 2) × (e ≡ Schema n)) × IfErr found (λ fault. e ≡ fault)

-- it names no schema, or another than 1 and 2
abbrev pub NamesNeither : OpenFault → Type 0
NamesNeither (Schema n) = (n ≢ pos 1) × (n ≢ pos 2)
NamesNeither _ = ⊤

-- a schema that is named is that of the database, and neither 1 nor 2
abbrev pub IsTold : State → OpenFault → Type 0
IsTold s (Schema n) = (n ≢ pos 1) × (n ≢ pos 2) × IsOfSchema s n
IsTold s _ = ⊤

-- the trees are those of a database whose tables of schema 2 stand for this world
abbrev pub MigratedTo : World → Trees → Type 0
MigratedTo w trees = (db : Database) × (trees ≡ db.trees) × SettlesOn InTables (reopened db) w

-- A crash leaves the registry of schema 1 as it was, or one of schema 2 that stands for the same world; where
-- it was done, that.
abbrev pub CrashMigrates : {S : Type 0} → Ghosts S → Held S → Held S → {A E : Type 0} → Result A E → Type 0
CrashMigrates g old new r =
    HasCleanDisk (state g new) → IsIdle (state g old) → HoldsOldRegistry (state g old).now
    → (trees : Trees) → (state g new).may_leave trees
    → OnOk r (MigratedTo (old_world_in (state g old).now) trees)
    × ((trees ≡ (state g old).now.trees) ⊎ MigratedTo (old_world_in (state g old).now) trees)
