-- A last number that rises: what it makes of the world, and that the rows stand for it.
use Rattle.std.proofs.Common.{◌≡◌, ◌≤◌, ℕ, List, Bool, true, false, cond, Option, None, Some, refl, sym, ap, subst, ◌∙◌, arith}
use Rattle.std.specs.Prelude.{find, option_map}
use Rattle.std.specs.Option.{option_map_or}
use Rattle.sqlite.specs.Order.{Row}
use Rattle.oci_types.specs.Text.{Text}
use Rattle.registry_copy.specs.Restoring.{set_last}
use Rattle.store_schema.specs.Rows.{natural_at}
use Rattle.store_statements.specs.Keys.{of_first, same_first}
use Rattle.store_statements.specs.Tables.{Tables, IsRepoRow}
use Rattle.store_statements.specs.World.{world_of}
use Rattle.store_statements.specs.Registry.{last_in, IsRegistry}
use Rattle.store_statements.specs.Changes.{changed, with_last}
use Rattle.store_statements.specs.Steps.{repos_changed}
use Rattle.store_statements.proofs.Base.{found_named, updated}
use Rattle.store_statements.proofs.Found.{has_first, find_changed}
use Rattle.store_statements.proofs.Kept.{rows_changed}
use Rattle.store_statements.proofs.RepoWorlds.{is_repo_changed, with_repos_rows}

-- no last number falls
last_rises : (repos : List Row) (name : Text) (number : ℕ) → last_in repos name ≤ number → (other : Text) → last_in repos other ≤ last_in (changed (of_first name) (with_last number) repos) other
last_rises repos name number above other =
    subst (λ (o : Option Row). last_in repos other ≤ option_map_or (λ r. natural_at r 3) o 0) (sym (find_changed (of_first name) (of_first other) (with_last number) (λ r. refl) repos)) (go (find (of_first other) repos) refl)
  where
    step : (r : Row) (b : Bool) → of_first name r ≡ b → find (of_first other) repos ≡ Some r → natural_at r 3 ≤ natural_at (cond b (with_last number r) r) 3
    step r true e f =
        let same : other ≡ name = sym (found_named repos other r f) ∙ has_first name r e in
        let last : last_in repos name ≡ natural_at r 3 = ap (last_in repos) (sym same) ∙ ap (λ o. option_map_or (λ x. natural_at x 3) o 0) f in
        omega (arith, last, above)
    step r false e f = omega arith

    go : (o : Option Row) → find (of_first other) repos ≡ o → last_in repos other ≤ option_map_or (λ r. natural_at r 3) (option_map (λ r. cond (of_first name r) (with_last number r) r) o) 0
    go None e = let none = ap (λ o. option_map_or (λ (x : Row). natural_at x 3) o 0) e in omega (arith, none)
    go (Some r) e = let last = ap (λ o. option_map_or (λ (x : Row). natural_at x 3) o 0) e in let up = step r (of_first name r) refl e in omega (arith, last, up)

last_set : (t : Tables) (name : Text) (number : ℕ) → IsRegistry t → last_in t.repos name ≤ number
    → let after = repos_changed (of_first name) (with_last number) t in (world_of after ≡ set_last (world_of t) name number) × IsRegistry after
last_set t name number is rises = (
  updated t (repos_changed (of_first name) (with_last number) t) name (λ r. record r { last = number }) (with_last number) refl refl (λ r. refl)
      (record { blobs = λ other e. refl; manifests = λ other e. refl; tags = λ other e. refl; sessions = λ other e. refl }) (λ r e. refl),
  with_repos_rows t (changed (of_first name) (with_last number) t.repos) is
      (rows_changed IsRepoRow same_first (of_first name) (with_last number) t.repos (λ r h. record { name = h.name; quota = h.quota; last = refl }) (λ a b. refl) (λ a b. refl) (λ r. refl) is.tables.repos)
      (λ other e. is_repo_changed name other (with_last number) t.repos (λ r. refl) ∙ e)
      (λ other e. last_rises t.repos name number rises other),
)

pub last_put : (t after : Tables) (name : Text) (number : ℕ) → IsRegistry t → last_in t.repos name ≤ number → after ≡ repos_changed (of_first name) (with_last number) t
    → (world_of after ≡ set_last (world_of t) name number) × IsRegistry after
last_put t after name number is rises e =
    subst (λ (u : Tables). (world_of u ≡ set_last (world_of t) name number) × IsRegistry u) (sym e) (last_set t name number is rises)
