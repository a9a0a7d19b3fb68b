-- The pieces of upload sessions. What the texts mean, where the table stands in a schema.
use Rattle.std.specs.Prelude.{ℕ, List, ◌∷◌, [], codes}
use Rattle.sqlite.specs.declared.types.Value.TheVariants.{Null}
use Rattle.sqlite.specs.Schema.{Schema}
use Rattle.sqlite.specs.Term.{lit, col}
use Rattle.sqlite.specs.Source.TheVariants.{Values}
use Rattle.sqlite.specs.Command.TheVariants.{Insert}
use Rattle.store_schema.specs.Schema.{pieces_table}
use Rattle.store_schema.specs.Layout.{Stands, Means, equals}
use Rattle.store_schema.specs.Commands.{deletes, selects, selects_ordered}

abbrev pub piece_list : List ℕ
piece_list = codes "SELECT content FROM registry_pieces WHERE repo = ?1 AND number = ?2 ORDER BY start"

abbrev pub piece_contents : List ℕ
piece_contents = codes "SELECT content FROM registry_pieces"

abbrev pub piece_add : List ℕ
piece_add =
    codes "INSERT INTO registry_pieces (repo, number, start, size, content) VALUES (?1, ?2, ?3, ?4, ?5)"

abbrev pub piece_take_of : List ℕ
piece_take_of = codes "DELETE FROM registry_pieces WHERE repo = ?1 AND number = ?2"

abbrev pub piece_take_all : List ℕ
piece_take_all = codes "DELETE FROM registry_pieces WHERE repo = ?1"

pub record KnowsPieceTexts (schema : Schema) (stands : Stands schema pieces_table) : Type 0 where
  pub list : Means schema piece_list
      (selects_ordered schema pieces_table (equals 1 0 ∷ equals 2 1 ∷ []) (col 1 5 ∷ []) 3
      (codes "content" ∷ []))
  pub contents : Means schema piece_contents
      (selects schema pieces_table [] (col 1 5 ∷ []) (codes "content" ∷ []))
  pub add : Means schema piece_add
      (Insert stands.at (Values (lit Null ∷ col 0 0 ∷ col 0 1 ∷ col 0 2 ∷ col 0 3 ∷ col 0 4 ∷ []) 6))
  pub take_of : Means schema piece_take_of
      (deletes stands.at schema pieces_table (equals 1 0 ∷ equals 2 1 ∷ []))
  pub take_all : Means schema piece_take_all (deletes stands.at schema pieces_table (equals 1 0 ∷ []))
