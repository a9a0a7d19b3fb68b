-- How the opening of a registry over a pack fails.
use Rattle.std.specs.Prelude.{◌≢◌, pos, Bool, List, ℕ, codes, is_some, ⊤}
use Rattle.sqlite.specs.Schema.{Schema}
use Rattle.sqlite.specs.State.{State}
use Rattle.sqlite_schema.specs.Names.{table_named}
use Rattle.store_opening.specs.declared.opening.OpenFault.{OpenFault}
use Rattle.store_opening.specs.declared.opening.OpenFault.TheVariants.{Schema as Numbered}
use Rattle.store_opening.specs.Asking.{IsOfSchema}

-- there is a table of this name, in letters of either case
abbrev pub has_table : Schema → List ℕ → Bool
has_table schema name = is_some (table_named schema name)

abbrev pub has_pack_table : Schema → Bool
has_pack_table schema = has_table schema (codes "registry_pack")

-- it names no schema, or another than 3
abbrev pub NamesNotThree : OpenFault → Type 0
NamesNotThree (Numbered n) = n ≢ pos 3
NamesNotThree _ = ⊤

-- a schema that is named is that of the database, and another than 3
abbrev pub IsToldOther : State → OpenFault → Type 0
IsToldOther s (Numbered n) = (n ≢ pos 3) × IsOfSchema s n
IsToldOther s _ = ⊤
