-- Links to the contents of manifests. What the texts mean, where the table stands in a schema.
use Rattle.std.specs.Prelude.{ℕ, List, ◌∷◌, ◌++◌, [], codes}
use Rattle.sqlite.specs.declared.types.Value.TheVariants.{Null}
use Rattle.sqlite.specs.Schema.{Schema}
use Rattle.sqlite.specs.Term.{lit, col}
use Rattle.sqlite.specs.Source.TheVariants.{Values}
use Rattle.sqlite.specs.Command.TheVariants.{Insert}
use Rattle.store_schema.specs.Schema.{manifest_links_table}
use Rattle.store_schema.specs.Layout.{Stands, Means, equals}
use Rattle.store_schema.specs.Commands.{deletes, selects, selects_ordered}

abbrev pub manifest_find : List ℕ
manifest_find =
    codes "SELECT size, kind, content FROM registry_manifest_links WHERE repo = ?1 AND digest = ?2"

abbrev pub manifest_subject : List ℕ
manifest_subject =
    codes "SELECT digest, content FROM registry_manifest_links WHERE repo = ?1 AND subject = ?2"
    ++ codes " ORDER BY digest"

abbrev pub manifest_sizes : List ℕ
manifest_sizes = codes "SELECT size FROM registry_manifest_links WHERE repo = ?1"

abbrev pub manifest_digests : List ℕ
manifest_digests = codes "SELECT digest FROM registry_manifest_links WHERE repo = ?1 ORDER BY digest"

abbrev pub manifest_contents : List ℕ
manifest_contents = codes "SELECT content FROM registry_manifest_links"

abbrev pub manifest_add : List ℕ
manifest_add =
    codes "INSERT INTO registry_manifest_links (repo, digest, size, kind, subject, content)"
    ++ codes " VALUES (?1, ?2, ?3, ?4, ?5, ?6)"

abbrev pub manifest_take : List ℕ
manifest_take = codes "DELETE FROM registry_manifest_links WHERE repo = ?1 AND digest = ?2"

abbrev pub manifest_take_all : List ℕ
manifest_take_all = codes "DELETE FROM registry_manifest_links WHERE repo = ?1"

pub record KnowsManifestTexts (schema : Schema) (stands : Stands schema manifest_links_table) : Type 0 where
  pub find : Means schema manifest_find
      (selects schema manifest_links_table (equals 1 0 ∷ equals 2 1 ∷ []) (col 1 3 ∷ col 1 4 ∷ col 1 6 ∷ [])
      (codes "size" ∷ codes "kind" ∷ codes "content" ∷ []))
  pub subject : Means schema manifest_subject
      (selects_ordered schema manifest_links_table (equals 1 0 ∷ equals 5 1 ∷ []) (col 1 2 ∷ col 1 6 ∷ []) 2
      (codes "digest" ∷ codes "content" ∷ []))
  pub sizes : Means schema manifest_sizes
      (selects schema manifest_links_table (equals 1 0 ∷ []) (col 1 3 ∷ []) (codes "size" ∷ []))
  pub digests : Means schema manifest_digests
      (selects_ordered schema manifest_links_table (equals 1 0 ∷ []) (col 1 2 ∷ []) 2 (codes "digest" ∷ []))
  pub contents : Means schema manifest_contents
      (selects schema manifest_links_table [] (col 1 6 ∷ []) (codes "content" ∷ []))
  pub add : Means schema manifest_add
      (Insert stands.at
      (Values (lit Null ∷ col 0 0 ∷ col 0 1 ∷ col 0 2 ∷ col 0 3 ∷ col 0 4 ∷ col 0 5 ∷ []) 7))
  pub take : Means schema manifest_take
      (deletes stands.at schema manifest_links_table (equals 1 0 ∷ equals 2 1 ∷ []))
  pub take_all : Means schema manifest_take_all
      (deletes stands.at schema manifest_links_table (equals 1 0 ∷ []))
