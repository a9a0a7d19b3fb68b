-- Upload sessions. What the texts mean, where the table stands in a schema.
use Rattle.std.specs.Prelude.{ℕ, List, ◌∷◌, [], codes, pos}
use Rattle.sqlite.specs.declared.types.Value.TheVariants.{Null, Int}
use Rattle.sqlite.specs.Schema.{Schema}
use Rattle.sqlite.specs.Term.{lit, col}
use Rattle.sqlite.specs.Source.TheVariants.{Values}
use Rattle.sqlite.specs.Command.TheVariants.{Insert}
use Rattle.store_schema.specs.Schema.{uploads_table}
use Rattle.store_schema.specs.Layout.{Stands, Means, equals}
use Rattle.store_schema.specs.Commands.{deletes, selects, updates}

abbrev pub upload_find : List ℕ
upload_find = codes "SELECT size FROM registry_uploads WHERE repo = ?1 AND number = ?2"

abbrev pub upload_sizes : List ℕ
upload_sizes = codes "SELECT size FROM registry_uploads WHERE repo = ?1"

abbrev pub upload_add : List ℕ
upload_add = codes "INSERT INTO registry_uploads (repo, number, size) VALUES (?1, ?2, 0)"

abbrev pub upload_set_size : List ℕ
upload_set_size = codes "UPDATE registry_uploads SET size = ?3 WHERE repo = ?1 AND number = ?2"

abbrev pub upload_take : List ℕ
upload_take = codes "DELETE FROM registry_uploads WHERE repo = ?1 AND number = ?2"

abbrev pub upload_take_all : List ℕ
upload_take_all = codes "DELETE FROM registry_uploads WHERE repo = ?1"

pub record KnowsUploadTexts (schema : Schema) (stands : Stands schema uploads_table) : Type 0 where
  pub find : Means schema upload_find
      (selects schema uploads_table (equals 1 0 ∷ equals 2 1 ∷ []) (col 1 3 ∷ []) (codes "size" ∷ []))
  pub sizes : Means schema upload_sizes
      (selects schema uploads_table (equals 1 0 ∷ []) (col 1 3 ∷ []) (codes "size" ∷ []))
  pub add : Means schema upload_add
      (Insert stands.at (Values (lit Null ∷ col 0 0 ∷ col 0 1 ∷ lit (Int (pos 0)) ∷ []) 4))
  pub set_size : Means schema upload_set_size
      (updates stands.at schema uploads_table (equals 1 0 ∷ equals 2 1 ∷ [])
      (col 1 0 ∷ col 1 0 ∷ col 1 1 ∷ col 1 2 ∷ col 0 2 ∷ []))
  pub take : Means schema upload_take (deletes stands.at schema uploads_table (equals 1 0 ∷ equals 2 1 ∷ []))
  pub take_all : Means schema upload_take_all (deletes stands.at schema uploads_table (equals 1 0 ∷ []))
