-- What is set where it is there, and comes where it is not.
use Rattle.std.specs.Prelude.{◌≡◌, ◌⊎◌, ℕ, Bool, true, List, find, is_some, None}
use Rattle.sqlite.specs.Order.{Row}
use Rattle.registry_model.specs.declared.level.Level.{Level}
use Rattle.store_statements.specs.Keys.{of_first, has_key}
use Rattle.store_statements.specs.Tables.{Tables}
use Rattle.store_statements.specs.Changes.{changed, with_quota, repo_columns, with_level, grant_columns, Comes}

-- rows that pass changed, or, where there were none, one row came
abbrev pub SetOrCome : (Row → Bool) → (Row → Row) → Row → List Row → List Row → Type 0
SetOrCome p f columns olds news =
    ((is_some (find p olds) ≡ true) × (news ≡ changed p f olds))
    ⊎ ((find p olds ≡ None) × Comes olds news columns)

-- the token has this level on the repository; the other tables stay
pub record LevelIsPut (old new : Tables) (token repo : List ℕ) (level : Level) : Type 0 where
  pub put : SetOrCome (has_key token repo) (with_level level) (grant_columns token repo level)
      old.grants new.grants
  pub others : new ≡ record old { grants = new.grants }

-- the repository is there with this quota; the other tables stay
pub record QuotaIsPut (old new : Tables) (name : List ℕ) (quota : ℕ) : Type 0 where
  pub put : SetOrCome (of_first name) (with_quota quota) (repo_columns name quota) old.repos new.repos
  pub others : new ≡ record old { repos = new.repos }
