-- What this crate's texts mean, where the table of contents stands in a schema. Over the schema that a
-- registry makes in an empty database it is so by computation.
use Rattle.std.specs.Prelude.{ℕ, List, [], ◌∷◌, codes}
use Rattle.sqlite.specs.declared.types.Value.TheVariants.{Null}
use Rattle.sqlite.specs.Schema.{Schema}
use Rattle.sqlite.specs.Term.{Term, lit, col}
use Rattle.sqlite.specs.Source.TheVariants.{Values}
use Rattle.sqlite.specs.Command.TheVariants.{Insert}
use Rattle.store_schema.specs.Schema.{contents_table}
use Rattle.store_schema.specs.Layout.{Stands, Means, equals}
use Rattle.store_schema.specs.Commands.{selects, deletes}

-- a row goes (rowid, NULL for `id`, sha256, size, bytes)

abbrev pub find_text : List ℕ
find_text = codes "SELECT id, bytes FROM registry_contents WHERE sha256 = ?1"

abbrev pub hash_text : List ℕ
hash_text = codes "SELECT id FROM registry_contents WHERE sha256 = ?1"

abbrev pub add_text : List ℕ
add_text = codes "INSERT INTO registry_contents (sha256, size, bytes) VALUES (?1, ?2, ?3)"

abbrev pub read_text : List ℕ
read_text = codes "SELECT bytes FROM registry_contents WHERE id = ?1"

abbrev pub list_text : List ℕ
list_text = codes "SELECT id FROM registry_contents"

abbrev pub remove_text : List ℕ
remove_text = codes "DELETE FROM registry_contents WHERE id = ?1"

abbrev pub find_terms : List Term
find_terms = equals 2 0 ∷ []

abbrev pub by_id : List Term
by_id = equals 0 0 ∷ []

abbrev pub add_terms : List Term
add_terms = lit Null ∷ lit Null ∷ col 0 0 ∷ col 0 1 ∷ col 0 2 ∷ []

pub record KnowsTexts (schema : Schema) (stands : Stands schema contents_table) : Type 0 where
  pub find : Means schema find_text
      (selects schema contents_table find_terms (col 1 0 ∷ col 1 4 ∷ []) (codes "id" ∷ codes "bytes" ∷ []))
  pub hash : Means schema hash_text
      (selects schema contents_table find_terms (col 1 0 ∷ []) (codes "id" ∷ []))
  pub add : Means schema add_text (Insert stands.at (Values add_terms 5))
  pub read : Means schema read_text
      (selects schema contents_table by_id (col 1 4 ∷ []) (codes "bytes" ∷ []))
  pub list : Means schema list_text (selects schema contents_table [] (col 1 0 ∷ []) (codes "id" ∷ []))
  pub remove : Means schema remove_text (deletes stands.at schema contents_table by_id)
