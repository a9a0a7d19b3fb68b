-- What a schema must be for this store's statements to mean what they say. The schema that a registry makes
-- in an empty database is so by computation.
use Rattle.std.specs.Prelude.{◌≡◌, ◌≢◌, ◌⊎◌, ◌==◌, ◌&&◌, ◌++◌, ℕ, Bool, true, false, not, if◌then◌else◌, List, ◌∷◌, [], Some}
use Rattle.std.specs.List.{list_any, AllByRecursion}
use Rattle.sqlite.specs.Order.{Row}
use Rattle.sqlite.specs.Table.{Table}
use Rattle.sqlite.specs.Schema.{Schema}
use Rattle.sqlite.specs.Tree.{IsAscending, Trees}
use Rattle.sqlite_rules.specs.Lists.{Has}
use Rattle.sqlite_rules.specs.Action.{works}
use Rattle.sqlite_schema.specs.declared.schema.Keys.TheVariants.{Enforced}
use Rattle.sqlite_schema.specs.declared.schema.Reference.{Reference}
use Rattle.sqlite_schema.specs.Rules.{ParentKey, parent_key}
use Rattle.sqlite_value.specs.Keys.{plain}
use Rattle.store_schema.specs.Schema.{version_table, repos_table, grants_table, tags_table, contents_table, blob_links_table, manifest_links_table, uploads_table, pieces_table}
use Rattle.store_schema.specs.Layout.{tree_of, Stands, IsUnreferred}
use Rattle.store_contents.specs.Layouts.{Layout, Knows, further_trees, IsNone}
use Rattle.store_statements.specs.RepoTexts.{KnowsRepoTexts}
use Rattle.store_statements.specs.GrantTexts.{KnowsGrantTexts}
use Rattle.store_statements.specs.TagTexts.{KnowsTagTexts}
use Rattle.store_statements.specs.BlobTexts.{KnowsBlobTexts}
use Rattle.store_statements.specs.ManifestTexts.{KnowsManifestTexts}
use Rattle.store_statements.specs.UploadTexts.{KnowsUploadTexts}
use Rattle.store_statements.specs.PieceTexts.{KnowsPieceTexts}
use Rattle.store_statements.specs.VersionTexts.{KnowsVersionTexts}

-- the trees of the nine tables
abbrev pub trees_of : Schema → List ℕ
trees_of schema =
    tree_of schema version_table ∷ tree_of schema repos_table ∷ tree_of schema grants_table
    ∷ tree_of schema tags_table ∷ tree_of schema contents_table ∷ tree_of schema blob_links_table
    ∷ tree_of schema manifest_links_table ∷ tree_of schema uploads_table ∷ tree_of schema pieces_table ∷ []

-- no two are one
abbrev pub AreApart : List ℕ → Type 0
AreApart = IsAscending (λ a b. a ≢ b)

-- the column of a child that names its repository
abbrev pub NamesRepo : Schema → Table → List ℕ → Type 0
NamesRepo schema child places =
    ((child.tree ≡ tree_of schema grants_table) × (places ≡ 2 ∷ []))
    ⊎ (((child.tree ≡ tree_of schema tags_table) ⊎ (child.tree ≡ tree_of schema blob_links_table)
    ⊎ (child.tree ≡ tree_of schema manifest_links_table) ⊎ (child.tree ≡ tree_of schema uploads_table)
    ⊎ (child.tree ≡ tree_of schema pieces_table)) × (places ≡ 1 ∷ []))

-- what it names is the repository's name, compared byte by byte
abbrev pub repo_key : Schema → ParentKey
repo_key schema = (tree_of schema repos_table, 1 ∷ [], plain)

-- ---- further tables

-- there is a foreign key
abbrev pub refers : List Reference → Bool
refers [] = false
refers (ref ∷ refs) = true

-- none of the nine, whose trees these are, and its rows may go with a row of another table
abbrev pub is_beside : List ℕ → Table → Bool
is_beside nine table = not (list_any (λ tree. tree == table.tree) nine) && refers table.references

-- the rows of those of these tables that are
abbrev pub rows_beside : Trees → List ℕ → List Table → List (List Row)
rows_beside trees nine [] = []
rows_beside trees nine (table ∷ tables) =
    (if is_beside nine table then trees table.tree ∷ [] else []) ++ rows_beside trees nine tables

-- ---- foreign keys

-- each foreign key is one of these, or of a further table
abbrev pub KnowsChildren : Schema → Type 0
KnowsChildren schema =
    (child : Table) → Has schema.tables child → (ref : Reference) → Has child.references ref
    → (NamesRepo schema child ref.columns × (parent_key schema.tables ref ≡ Some (repo_key schema)))
    ⊎ (is_beside (trees_of schema) child ≡ true)

-- no row goes with a row that changes
abbrev pub IsStill : Schema → Type 0
IsStill schema = (tree : ℕ) (x y : Row) → works schema Enforced 0 tree (x ∷ []) (y ∷ []) ≡ []

-- a further table that a layout has: none of the nine, and none whose rows go with rows of others
abbrev pub IsFurther : Schema → ℕ → Type 0
IsFurther schema tree =
    IsNone tree (trees_of schema)
    × AllByRecursion
    (λ (table : Table). is_beside (trees_of schema) table ≡ true → table.tree ≢ tree)
    schema.tables

pub record KnowsRegistry (l : Layout) (schema : Schema) : Type 0 where
  pub contents : Knows l schema
  pub further : AllByRecursion (IsFurther schema) (further_trees l schema)
  pub repos : Stands schema repos_table
  pub grants : Stands schema grants_table
  pub tags : Stands schema tags_table
  pub blobs : Stands schema blob_links_table
  pub manifests : Stands schema manifest_links_table
  pub uploads : Stands schema uploads_table
  pub pieces : Stands schema pieces_table
  pub version : Stands schema version_table
  pub grants_alone : IsUnreferred schema grants_table
  pub tags_alone : IsUnreferred schema tags_table
  pub blobs_alone : IsUnreferred schema blob_links_table
  pub manifests_alone : IsUnreferred schema manifest_links_table
  pub uploads_alone : IsUnreferred schema uploads_table
  pub pieces_alone : IsUnreferred schema pieces_table
  pub apart : AreApart (trees_of schema)
  pub children : KnowsChildren schema
  pub still : IsStill schema
  pub repo_texts : KnowsRepoTexts schema repos
  pub grant_texts : KnowsGrantTexts schema grants
  pub tag_texts : KnowsTagTexts schema tags
  pub blob_texts : KnowsBlobTexts schema blobs
  pub manifest_texts : KnowsManifestTexts schema manifests
  pub upload_texts : KnowsUploadTexts schema uploads
  pub piece_texts : KnowsPieceTexts schema pieces
  pub version_texts : KnowsVersionTexts schema version
