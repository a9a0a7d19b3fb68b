-- Links to the contents of blobs. What the texts mean, where the table stands in a schema.
use Rattle.std.specs.Prelude.{ℕ, List, ◌∷◌, [], codes}
use Rattle.sqlite.specs.declared.types.Value.TheVariants.{Null}
use Rattle.sqlite.specs.Schema.{Schema}
use Rattle.sqlite.specs.Term.{lit, col}
use Rattle.sqlite.specs.Source.TheVariants.{Values}
use Rattle.sqlite.specs.Command.TheVariants.{Insert}
use Rattle.store_schema.specs.Schema.{blob_links_table}
use Rattle.store_schema.specs.Layout.{Stands, Means, equals}
use Rattle.store_schema.specs.Commands.{deletes, selects, selects_ordered}

abbrev pub blob_find : List ℕ
blob_find = codes "SELECT size, content FROM registry_blob_links WHERE repo = ?1 AND digest = ?2"

abbrev pub blob_sizes : List ℕ
blob_sizes = codes "SELECT size FROM registry_blob_links WHERE repo = ?1"

abbrev pub blob_digests : List ℕ
blob_digests = codes "SELECT digest FROM registry_blob_links WHERE repo = ?1 ORDER BY digest"

abbrev pub blob_contents : List ℕ
blob_contents = codes "SELECT content FROM registry_blob_links"

abbrev pub blob_add : List ℕ
blob_add = codes "INSERT INTO registry_blob_links (repo, digest, size, content) VALUES (?1, ?2, ?3, ?4)"

abbrev pub blob_take : List ℕ
blob_take = codes "DELETE FROM registry_blob_links WHERE repo = ?1 AND digest = ?2"

abbrev pub blob_take_all : List ℕ
blob_take_all = codes "DELETE FROM registry_blob_links WHERE repo = ?1"

pub record KnowsBlobTexts (schema : Schema) (stands : Stands schema blob_links_table) : Type 0 where
  pub find : Means schema blob_find
      (selects schema blob_links_table (equals 1 0 ∷ equals 2 1 ∷ []) (col 1 3 ∷ col 1 4 ∷ [])
      (codes "size" ∷ codes "content" ∷ []))
  pub sizes : Means schema blob_sizes
      (selects schema blob_links_table (equals 1 0 ∷ []) (col 1 3 ∷ []) (codes "size" ∷ []))
  pub digests : Means schema blob_digests
      (selects_ordered schema blob_links_table (equals 1 0 ∷ []) (col 1 2 ∷ []) 2 (codes "digest" ∷ []))
  pub contents : Means schema blob_contents
      (selects schema blob_links_table [] (col 1 4 ∷ []) (codes "content" ∷ []))
  pub add : Means schema blob_add
      (Insert stands.at (Values (lit Null ∷ col 0 0 ∷ col 0 1 ∷ col 0 2 ∷ col 0 3 ∷ []) 5))
  pub take : Means schema blob_take (deletes stands.at schema blob_links_table (equals 1 0 ∷ equals 2 1 ∷ []))
  pub take_all : Means schema blob_take_all (deletes stands.at schema blob_links_table (equals 1 0 ∷ []))
