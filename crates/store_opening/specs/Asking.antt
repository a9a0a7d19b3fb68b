-- How an opening fails.
use Rattle.std.specs.Prelude.{◌≡◌, ◌≢◌, ◌⊎◌, ℤ, pos, List, [], ◌∷◌, ⊤}
use Rattle.sqlite.specs.declared.error.Error.{Error}
use Rattle.sqlite.specs.declared.error.Error.TheVariants.{SqliteFailure, SqlInputError}
use Rattle.sqlite.specs.declared.error.ErrorCode.TheVariants.{NameTaken}
use Rattle.sqlite.specs.declared.types.Value.TheVariants.{Int}
use Rattle.sqlite.specs.Order.{Row, column}
use Rattle.sqlite.specs.Clock.{timed}
use Rattle.sqlite.specs.Effect.{Database, Reads}
use Rattle.sqlite.specs.Listing.{IsSourceOf, reads_listing}
use Rattle.sqlite.specs.State.{State, IsStatement}
use Rattle.sqlite_resolve.specs.declared.compiled.Compiled.{Compiled}
use Rattle.sqlite_resolve.specs.declared.error.CompileError.{CompileError}
use Rattle.sqlite_resolve.specs.declared.error.CompileError.TheVariants.{Exists}
use Rattle.store_opening.specs.declared.opening.OpenFault.{OpenFault}
use Rattle.store_opening.specs.declared.opening.OpenFault.TheVariants.{Memory, Storage, Schema}
use Rattle.store_statements.specs.VersionTexts.{version_find}

-- memory is wanting, or the storage failed
abbrev pub IsWanting : OpenFault → Type 0
IsWanting fault = (fault ≡ Memory) ⊎ (fault ≡ Storage)

-- the statement's text was understood
abbrev pub IsFailing : Error → Type 0
IsFailing e = (cause : CompileError) → e ≢ SqlInputError cause

-- a name was taken
abbrev pub IsTaking : Error → Type 0
IsTaking e = (e ≡ SqliteFailure NameTaken) ⊎ (e ≡ SqlInputError Exists)

-- one row, which shows this number
abbrev pub ShowsAlone : List Row → ℤ → Type 0
ShowsAlone rows n = (row : Row) × (rows ≡ row ∷ []) × (column row 0 ≡ Int n)

-- asked for the version of its tables, the database answers these rows
abbrev pub AnswersVersion : State → List Row → Type 0
AnswersVersion s rows =
    (c : Compiled) × (it : IsStatement s version_find [] c) × (db : Database)
    × IsSourceOf (reads_listing s.now.schema version_find) s.now db
    × Reads c.command db (timed [] c.formats it.now) rows

-- it answers this number alone
abbrev pub IsOfSchema : State → ℤ → Type 0
IsOfSchema s n = (rows : List Row) × AnswersVersion s rows × ShowsAlone rows n

-- it names no schema
abbrev pub IsUnnumbered : OpenFault → Type 0
IsUnnumbered (Schema n) = ⊥
IsUnnumbered _ = ⊤

-- it names no schema, or another than 2
abbrev pub NamesNotTwo : OpenFault → Type 0
NamesNotTwo (Schema n) = n ≢ pos 2
NamesNotTwo _ = ⊤

-- memory is wanting, the storage failed, or it is this
abbrev pub IsWantingOr : OpenFault → OpenFault → Type 0
IsWantingOr other fault = IsWanting fault ⊎ (fault ≡ other)

-- a schema that is named is that of the database, and another than 2
abbrev pub IsTold : State → OpenFault → Type 0
IsTold s (Schema n) = (n ≢ pos 2) × IsOfSchema s n
IsTold s _ = ⊤
