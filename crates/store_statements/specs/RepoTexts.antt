-- Repositories. What the texts mean, where the table stands in a schema.
use Rattle.std.specs.Prelude.{ℕ, List, ◌∷◌, [], codes, pos}
use Rattle.sqlite.specs.declared.types.Value.TheVariants.{Null, Int}
use Rattle.sqlite.specs.Schema.{Schema}
use Rattle.sqlite.specs.Term.{lit, col}
use Rattle.sqlite.specs.Source.TheVariants.{Values}
use Rattle.sqlite.specs.Command.TheVariants.{Insert}
use Rattle.store_schema.specs.Schema.{repos_table}
use Rattle.store_schema.specs.Layout.{Stands, Means, equals}
use Rattle.store_schema.specs.Commands.{deletes, selects, selects_ordered, updates}

abbrev pub repo_find : List ℕ
repo_find = codes "SELECT quota, last_session FROM registry_repos WHERE name = ?1"

abbrev pub repo_list : List ℕ
repo_list = codes "SELECT name FROM registry_repos ORDER BY name"

abbrev pub repo_add : List ℕ
repo_add = codes "INSERT INTO registry_repos (name, quota, last_session) VALUES (?1, ?2, 0)"

abbrev pub repo_set_quota : List ℕ
repo_set_quota = codes "UPDATE registry_repos SET quota = ?2 WHERE name = ?1"

abbrev pub repo_set_last : List ℕ
repo_set_last = codes "UPDATE registry_repos SET last_session = ?2 WHERE name = ?1"

abbrev pub repo_take : List ℕ
repo_take = codes "DELETE FROM registry_repos WHERE name = ?1"

pub record KnowsRepoTexts (schema : Schema) (stands : Stands schema repos_table) : Type 0 where
  pub find : Means schema repo_find
      (selects schema repos_table (equals 1 0 ∷ []) (col 1 2 ∷ col 1 3 ∷ [])
      (codes "quota" ∷ codes "last_session" ∷ []))
  pub list : Means schema repo_list
      (selects_ordered schema repos_table [] (col 1 1 ∷ []) 1 (codes "name" ∷ []))
  pub add : Means schema repo_add
      (Insert stands.at (Values (lit Null ∷ col 0 0 ∷ col 0 1 ∷ lit (Int (pos 0)) ∷ []) 4))
  pub set_quota : Means schema repo_set_quota
      (updates stands.at schema repos_table (equals 1 0 ∷ [])
      (col 1 0 ∷ col 1 0 ∷ col 1 1 ∷ col 0 1 ∷ col 1 3 ∷ []))
  pub set_last : Means schema repo_set_last
      (updates stands.at schema repos_table (equals 1 0 ∷ [])
      (col 1 0 ∷ col 1 0 ∷ col 1 1 ∷ col 1 2 ∷ col 0 1 ∷ []))
  pub take : Means schema repo_take (deletes stands.at schema repos_table (equals 1 0 ∷ []))
