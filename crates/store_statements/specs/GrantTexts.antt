-- Levels of tokens on repositories. What the texts mean, where the table stands in a schema.
use Rattle.std.specs.Prelude.{ℕ, List, ◌∷◌, [], codes}
use Rattle.sqlite.specs.declared.types.Value.TheVariants.{Null}
use Rattle.sqlite.specs.Schema.{Schema}
use Rattle.sqlite.specs.Term.{lit, col}
use Rattle.sqlite.specs.Source.TheVariants.{Values}
use Rattle.sqlite.specs.Command.TheVariants.{Insert}
use Rattle.store_schema.specs.Schema.{grants_table}
use Rattle.store_schema.specs.Layout.{Stands, Means, equals}
use Rattle.store_schema.specs.Commands.{deletes, selects, selects_first, selects_ordered, selects_ordered_twice, updates}

abbrev pub grant_find : List ℕ
grant_find = codes "SELECT level FROM registry_grants WHERE token = ?1 AND repo = ?2"

abbrev pub grant_known : List ℕ
grant_known = codes "SELECT level FROM registry_grants WHERE token = ?1 LIMIT 1"

abbrev pub grant_list : List ℕ
grant_list = codes "SELECT token, level FROM registry_grants WHERE repo = ?1 ORDER BY token"

abbrev pub grant_list_all : List ℕ
grant_list_all = codes "SELECT repo, token, level FROM registry_grants ORDER BY repo, token"

abbrev pub grant_add : List ℕ
grant_add = codes "INSERT INTO registry_grants (token, repo, level) VALUES (?1, ?2, ?3)"

abbrev pub grant_set_level : List ℕ
grant_set_level = codes "UPDATE registry_grants SET level = ?3 WHERE token = ?1 AND repo = ?2"

abbrev pub grant_take : List ℕ
grant_take = codes "DELETE FROM registry_grants WHERE token = ?1 AND repo = ?2"

abbrev pub grant_take_all : List ℕ
grant_take_all = codes "DELETE FROM registry_grants WHERE repo = ?1"

abbrev pub grant_take_token : List ℕ
grant_take_token = codes "DELETE FROM registry_grants WHERE token = ?1"

pub record KnowsGrantTexts (schema : Schema) (stands : Stands schema grants_table) : Type 0 where
  pub find : Means schema grant_find
      (selects schema grants_table (equals 1 0 ∷ equals 2 1 ∷ []) (col 1 3 ∷ []) (codes "level" ∷ []))
  pub known : Means schema grant_known
      (selects_first schema grants_table (equals 1 0 ∷ []) (col 1 3 ∷ []) (codes "level" ∷ []))
  pub list : Means schema grant_list
      (selects_ordered schema grants_table (equals 2 0 ∷ []) (col 1 1 ∷ col 1 3 ∷ []) 1
      (codes "token" ∷ codes "level" ∷ []))
  pub list_all : Means schema grant_list_all
      (selects_ordered_twice schema grants_table [] (col 1 2 ∷ col 1 1 ∷ col 1 3 ∷ []) 2 1
      (codes "repo" ∷ codes "token" ∷ codes "level" ∷ []))
  pub add : Means schema grant_add (Insert stands.at (Values (lit Null ∷ col 0 0 ∷ col 0 1 ∷ col 0 2 ∷ []) 4))
  pub set_level : Means schema grant_set_level
      (updates stands.at schema grants_table (equals 1 0 ∷ equals 2 1 ∷ [])
      (col 1 0 ∷ col 1 0 ∷ col 1 1 ∷ col 1 2 ∷ col 0 2 ∷ []))
  pub take : Means schema grant_take (deletes stands.at schema grants_table (equals 1 0 ∷ equals 2 1 ∷ []))
  pub take_all : Means schema grant_take_all (deletes stands.at schema grants_table (equals 2 0 ∷ []))
  pub take_token : Means schema grant_take_token (deletes stands.at schema grants_table (equals 1 0 ∷ []))
