-- Grants: found by their rows, set, added and taken.
use Rattle.std.proofs.Common.{◌≡◌, List, map, Bool, true, false, cond, None, Some, refl, sym, ap, ◌∙◌, pos}
use Rattle.std.specs.Prelude.{bytes_eq, find, option_map, if◌then◌else◌}
use Rattle.std.specs.FinMap.{insert, empty, from_entries}
use Rattle.sqlite.specs.declared.types.Value.TheVariants.{Int}
use Rattle.sqlite.specs.Order.{Row}
use Rattle.oci_types.specs.Text.{Text}
use Rattle.registry_model.specs.declared.level.Level.{Level}
use Rattle.registry_model.specs.declared.level.Level.TheVariants.{Pull, Push, Delete}
use Rattle.registry_model.specs.World.{Grants, level_at, with_grants}
use Rattle.registry_model.specs.Command.{grant, revoke, revoke_all}
use Rattle.store_schema.specs.Rows.{bytes_at, natural_at}
use Rattle.store_schema.proofs.Lists.{bytes_eq_true}
use Rattle.store_statements.specs.Keys.{of_first, has_key, same_key}
use Rattle.store_statements.specs.Tables.{Tables, IsGrantRow, level_of, level_number}
use Rattle.store_statements.specs.World.{grant_entry, grants_of, world_of}
use Rattle.store_statements.specs.Registry.{is_repo, IsRegistry}
use Rattle.store_statements.specs.Changes.{without, changed, with_level, Comes, grant_columns}
use Rattle.store_statements.proofs.Base.{grant_found}
use Rattle.store_statements.proofs.Others.{within_itself, within_key, none_left, others_without, others_changed, others_came}
use Rattle.store_statements.proofs.Kept.{all_without, all_changed, all_came, rows_without, rows_changed, rows_came, same_key-sym}
use Rattle.store_statements.proofs.Named.{named_came, named_without, named_changed}
use Rattle.store_statements.proofs.Frames.{with_grants_rows}

-- ---- reads

pub level_found : (t : Tables) (token name : Text) → level_at (world_of t) token name ≡ option_map (λ r. level_of (natural_at r 3)) (find (has_key token name) t.grants)
level_found t token name = grant_found t.grants token name

pub level_of_number : (level : Level) → level_of (level_number level) ≡ level
level_of_number Pull = refl
level_of_number Push = refl
level_of_number Delete = refl

-- ---- writes

-- where the grants of one token change
granted : (t : Tables) (rows : List Row) (token : Text) (grants : Grants) → ((other : Text) → bytes_eq other token ≡ false → grants_of rows other ≡ grants_of t.grants other) → grants_of rows token ≡ grants
    → world_of (record t { grants = rows }) ≡ with_grants (world_of t) token grants
granted t rows token grants others mine = λ i. record { repos = (world_of t).repos; grants = λ other. at other (bytes_eq other token) refl i }
  where
    at : (other : Text) (b : Bool) → bytes_eq other token ≡ b → grants_of rows other ≡ (if bytes_eq other token then grants else grants_of t.grants other)
    at other true e = ap (grants_of rows) (bytes_eq_true other token e) ∙ mine ∙ ap (λ c. cond c grants (grants_of t.grants other)) (sym e)
    at other false e = others other e ∙ ap (λ c. cond c grants (grants_of t.grants other)) (sym e)

pub level_set : (t : Tables) (token name : Text) (level : Level) (there : Row) → IsRegistry t → find (has_key token name) t.grants ≡ Some there
    → let after : Tables = record t { grants = changed (has_key token name) (with_level level) t.grants } in (world_of after ≡ grant (world_of t) token name level) × IsRegistry after
level_set t token name level there is found = (
  granted t rows token _ (λ other e. ap (λ xs. from_entries (map grant_entry xs)) (others_changed token other p (with_level level) t.grants (within_key token name) (λ r. refl) e))
      (named_changed (λ r. level_of (natural_at r 3)) t.grants token name (with_level level) level there (λ r. refl) (λ r. refl) (λ r. level_of_number level) found),
  with_grants_rows t rows is
      (rows_changed IsGrantRow same_key p (with_level level) t.grants (λ r h. record { token = h.token; repo = h.repo; level = ap (λ l. Int (pos (level_number l))) (sym (level_of_number level)) }) (λ a b. refl) (λ a b. refl) (λ r. refl) is.tables.grants)
      (all_changed _ p (with_level level) t.grants (λ r h. h) is.agree.granted),
)
  where
    p : Row → Bool
    p = has_key token name

    rows : List Row
    rows = changed p (with_level level) t.grants

pub grant_added : (t : Tables) (token name : Text) (level : Level) (rows : List Row) → IsRegistry t → is_repo t.repos name ≡ true → find (has_key token name) t.grants ≡ None → Comes t.grants rows (grant_columns token name level)
    → let after : Tables = record t { grants = rows } in (world_of after ≡ grant (world_of t) token name level) × IsRegistry after
grant_added t token name level rows is there fresh c = (
  granted t rows token _ (λ other e. ap (λ xs. from_entries (map grant_entry xs)) (others_came token other t.grants rows columns c (λ id. refl) e))
      (named_came (λ r. level_of (natural_at r 3)) t.grants rows token name columns c (λ id. refl) (λ id. refl) fresh ∙ ap (insert (grants_of t.grants token) name) (level_of_number level)),
  with_grants_rows t rows is
      (rows_came IsGrantRow same_key t.grants rows columns c same_key-sym (λ id. record { token = refl; repo = refl; level = ap (λ l. Int (pos (level_number l))) (sym (level_of_number level)) }) fresh is.tables.grants)
      (all_came (λ r. is_repo t.repos (bytes_at r 2) ≡ true) t.grants rows columns c there is.agree.granted),
)
  where
    columns : Row
    columns = grant_columns token name level

pub grant_taken : (t : Tables) (token name : Text) → IsRegistry t → let after : Tables = record t { grants = without (has_key token name) t.grants } in (world_of after ≡ revoke (world_of t) token name) × IsRegistry after
grant_taken t token name is = (
  granted t (without p t.grants) token _ (λ other e. ap (λ xs. from_entries (map grant_entry xs)) (others_without token other p t.grants (within_key token name) e)) (named_without (λ r. level_of (natural_at r 3)) t.grants token name),
  with_grants_rows t (without p t.grants) is (rows_without IsGrantRow same_key p t.grants is.tables.grants) (all_without _ p t.grants is.agree.granted),
)
  where
    p : Row → Bool
    p = has_key token name

-- each grant to a token goes
pub token_taken : (t : Tables) (token : Text) → IsRegistry t → let after : Tables = record t { grants = without (of_first token) t.grants } in (world_of after ≡ revoke_all (world_of t) token) × IsRegistry after
token_taken t token is = (
  granted t (without p t.grants) token empty (λ other e. ap (λ xs. from_entries (map grant_entry xs)) (others_without token other p t.grants (within_itself token) e)) (ap (λ xs. from_entries (map grant_entry xs)) (none_left p t.grants)),
  with_grants_rows t (without p t.grants) is (rows_without IsGrantRow same_key p t.grants is.tables.grants) (all_without _ p t.grants is.agree.granted),
)
  where
    p : Row → Bool
    p = of_first token
