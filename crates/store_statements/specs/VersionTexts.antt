-- Which schema the tables are. What the texts mean, where the table stands in a schema.
use Rattle.std.specs.Prelude.{ℕ, List, ◌∷◌, [], codes, pos}
use Rattle.sqlite.specs.declared.types.Value.TheVariants.{Null, Int}
use Rattle.sqlite.specs.Schema.{Schema}
use Rattle.sqlite.specs.Term.{lit, col}
use Rattle.sqlite.specs.Source.TheVariants.{Values}
use Rattle.sqlite.specs.Command.TheVariants.{Insert}
use Rattle.store_schema.specs.Schema.{version_table}
use Rattle.store_schema.specs.Layout.{Stands, Means}
use Rattle.store_schema.specs.Commands.{selects}

abbrev pub version_find : List ℕ
version_find = codes "SELECT version FROM registry_schema"

abbrev pub version_add : List ℕ
version_add = codes "INSERT INTO registry_schema (version) VALUES (2)"

pub record KnowsVersionTexts (schema : Schema) (stands : Stands schema version_table) : Type 0 where
  pub find : Means schema version_find (selects schema version_table [] (col 1 1 ∷ []) (codes "version" ∷ []))
  pub add : Means schema version_add (Insert stands.at (Values (lit Null ∷ lit (Int (pos 2)) ∷ []) 2))
