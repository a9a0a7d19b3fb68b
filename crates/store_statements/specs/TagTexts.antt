-- Tags. What the texts mean, where the table stands in a schema.
use Rattle.std.specs.Prelude.{ℕ, List, ◌∷◌, [], codes}
use Rattle.sqlite.specs.declared.types.Value.TheVariants.{Null}
use Rattle.sqlite.specs.Schema.{Schema}
use Rattle.sqlite.specs.Term.{lit, col}
use Rattle.sqlite.specs.Source.TheVariants.{Values}
use Rattle.sqlite.specs.Command.TheVariants.{Insert}
use Rattle.store_schema.specs.Schema.{tags_table}
use Rattle.store_schema.specs.Layout.{Stands, Means, equals}
use Rattle.store_schema.specs.Ordered.{above}
use Rattle.store_schema.specs.Commands.{deletes, selects, selects_ordered, selects_page, updates}

abbrev pub tag_find : List ℕ
tag_find = codes "SELECT digest FROM registry_tags WHERE repo = ?1 AND tag = ?2"

abbrev pub tag_page : List ℕ
tag_page = codes "SELECT tag FROM registry_tags WHERE repo = ?1 AND tag > ?2 ORDER BY tag LIMIT ?3"

abbrev pub tag_list : List ℕ
tag_list = codes "SELECT tag FROM registry_tags WHERE repo = ?1"

abbrev pub tag_pairs : List ℕ
tag_pairs = codes "SELECT tag, digest FROM registry_tags WHERE repo = ?1 ORDER BY tag"

abbrev pub tag_add : List ℕ
tag_add = codes "INSERT INTO registry_tags (repo, tag, digest) VALUES (?1, ?2, ?3)"

abbrev pub tag_set_digest : List ℕ
tag_set_digest = codes "UPDATE registry_tags SET digest = ?3 WHERE repo = ?1 AND tag = ?2"

abbrev pub tag_take : List ℕ
tag_take = codes "DELETE FROM registry_tags WHERE repo = ?1 AND tag = ?2"

abbrev pub tag_take_named : List ℕ
tag_take_named = codes "DELETE FROM registry_tags WHERE repo = ?1 AND digest = ?2"

abbrev pub tag_take_all : List ℕ
tag_take_all = codes "DELETE FROM registry_tags WHERE repo = ?1"

abbrev pub tag_named : List ℕ
tag_named = codes "SELECT tag FROM registry_tags WHERE repo = ?1 AND digest = ?2"

pub record KnowsTagTexts (schema : Schema) (stands : Stands schema tags_table) : Type 0 where
  pub find : Means schema tag_find
      (selects schema tags_table (equals 1 0 ∷ equals 2 1 ∷ []) (col 1 3 ∷ []) (codes "digest" ∷ []))
  pub page : Means schema tag_page
      (selects_page schema tags_table (equals 1 0 ∷ above 2 1 ∷ []) (col 1 2 ∷ []) 2 2 (codes "tag" ∷ []))
  pub list : Means schema tag_list
      (selects schema tags_table (equals 1 0 ∷ []) (col 1 2 ∷ []) (codes "tag" ∷ []))
  pub pairs : Means schema tag_pairs
      (selects_ordered schema tags_table (equals 1 0 ∷ []) (col 1 2 ∷ col 1 3 ∷ []) 2
      (codes "tag" ∷ codes "digest" ∷ []))
  pub add : Means schema tag_add (Insert stands.at (Values (lit Null ∷ col 0 0 ∷ col 0 1 ∷ col 0 2 ∷ []) 4))
  pub set_digest : Means schema tag_set_digest
      (updates stands.at schema tags_table (equals 1 0 ∷ equals 2 1 ∷ [])
      (col 1 0 ∷ col 1 0 ∷ col 1 1 ∷ col 1 2 ∷ col 0 2 ∷ []))
  pub take : Means schema tag_take (deletes stands.at schema tags_table (equals 1 0 ∷ equals 2 1 ∷ []))
  pub take_named : Means schema tag_take_named
      (deletes stands.at schema tags_table (equals 1 0 ∷ equals 3 1 ∷ []))
  pub take_all : Means schema tag_take_all (deletes stands.at schema tags_table (equals 1 0 ∷ []))
  pub named : Means schema tag_named
      (selects schema tags_table (equals 1 0 ∷ equals 3 1 ∷ []) (col 1 2 ∷ []) (codes "tag" ∷ []))
