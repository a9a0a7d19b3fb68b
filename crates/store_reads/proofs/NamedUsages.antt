-- What all repositories hold and may hold, one after the other.
use Rattle.std.proofs.Common.{◌≡◌, ◌∙◌, ◌∷◌, [], List, map, find, cond, false, Some, sym, ap}
use Rattle.std.specs.Option.{option_map_or}
use Rattle.std.specs.List.{AllByRecursion}
use Rattle.std.proofs.lemmas.List.{map-id}
use Rattle.std.proofs.lemmas.List.Sorted.{IsPermutation-sym}
use Rattle.sqlite.specs.Order.{Row}
use Rattle.sqlite.specs.State.{State}
use Rattle.sqlite.specs.Tree.{IsAscending}
use Rattle.sqlite_trees.proofs.ListLemmas.{all_both, all_weaker, all-permutation, map-map}
use Rattle.sqlite_keyed.specs.Lists.{sort_by}
use Rattle.sqlite_keyed.proofs.SortLemmas.{IsPermutation-sort_by}
use Rattle.std.proofs.lemmas.Cmp.{nat_list_cmp_total, on_total}
use Rattle.oci_types.specs.Text.{Text}
use Rattle.registry_model.specs.declared.quota.Usage.{Usage}
use Rattle.registry_model.specs.Lookups.{usages_of, no_usage}
use Rattle.store_schema.specs.Rows.{bytes_at}
use Rattle.store_schema.proofs.Lists.{bytes_eq_itself, bytes_eq-sym}
use Rattle.store_contents.specs.Layouts.{Layout}
use Rattle.store_statements.specs.Keys.{of_first, same_first}
use Rattle.store_statements.specs.Tables.{Tables}
use Rattle.store_statements.specs.World.{world_of}
use Rattle.store_statements.specs.Registry.{IsRegistry}
use Rattle.store_statements.proofs.ContentWorlds.{map_same_on}
use Rattle.store_statements.proofs.Usages.{usage_in, usage_found, usages_found}
use Rattle.store_statements.specs.Held.{held, tables_in, world_in}
use Rattle.store_statements.specs.Shown.{by_name}
use Rattle.store_reads.specs.Tallies.{named_usage}
use Rattle.store_reads.specs.Each.{AreTold}
use Rattle.store_reads.proofs.ToldEach.{mapped}

-- each row of a repository is found by its name
found_each : (rows : List Row) → IsAscending (λ a b. same_first a b ≡ false) rows → AllByRecursion (λ r. find (of_first (bytes_at r 1)) rows ≡ Some r) rows
found_each [] up = tt
found_each (x ∷ xs) up = (
  ap (λ b. cond b (Some x) (find (of_first (bytes_at x 1)) xs)) (bytes_eq_itself (bytes_at x 1)),
  all_both (λ r. same_first x r ≡ false) (λ r. find (of_first (bytes_at r 1)) xs ≡ Some r) (λ r. find (of_first (bytes_at r 1)) (x ∷ xs) ≡ Some r)
      (λ r apart e. ap (λ b. cond b (Some x) (find (of_first (bytes_at r 1)) xs)) (bytes_eq-sym (bytes_at x 1) (bytes_at r 1) ∙ apart) ∙ e) xs up.0 (found_each xs up.1),
)

-- the names in order, each with its usage
pub all_named : (t : Tables) → IsRegistry t → map (named_usage (world_of t)) (map (λ r. bytes_at r 1) (sort_by by_name t.repos)) ≡ usages_of (world_of t)
all_named t is =
    map-map (named_usage (world_of t)) (λ r. bytes_at r 1) (sort_by by_name t.repos)
    ∙ map_same_on (λ r. named_usage (world_of t) (bytes_at r 1)) (λ r. (bytes_at r 1, usage_in t (bytes_at r 1) r)) (sort_by by_name t.repos)
    (all-permutation _ t.repos (sort_by by_name t.repos) (IsPermutation-sym _ _ (IsPermutation-sort_by by_name (on_total (λ r. bytes_at r 1) nat_list_cmp_total) t.repos))
    (all_weaker (λ r. find (of_first (bytes_at r 1)) t.repos ≡ Some r) (λ r. named_usage (world_of t) (bytes_at r 1) ≡ (bytes_at r 1, usage_in t (bytes_at r 1) r)) of_row t.repos (found_each t.repos is.tables.repos.apart)))
    ∙ sym (usages_found t is)
  where
    of_row : (r : Row) → find (of_first (bytes_at r 1)) t.repos ≡ Some r → named_usage (world_of t) (bytes_at r 1) ≡ (bytes_at r 1, usage_in t (bytes_at r 1) r)
    of_row r e = ap (λ (u : Usage). (bytes_at r 1, u)) (usage_found t (bytes_at r 1) is ∙ ap (λ o. option_map_or (usage_in t (bytes_at r 1)) o no_usage) e)

-- the names, then the usages, of a database that stays
pub all_shown : (l : Layout) → (old mid : State) (names : List Text) (all : List (Text × Usage)) → IsRegistry (held l old) → mid.now ≡ old.now → names ≡ map (λ r. bytes_at r 1) (sort_by by_name (held l old).repos)
    → AreTold (λ name named. named ≡ named_usage (world_in l mid) name) names all → all ≡ usages_of (world_in l old)
all_shown l old mid names all is same named shown =
    sym (map-id all) ∙ mapped (λ name named. named ≡ named_usage (world_in l mid) name) (named_usage (world_in l mid)) (λ named. named) (λ name named e. e) names all shown ∙ ap (λ db. map (named_usage (world_of (tables_in l db))) names) same ∙ ap (map (named_usage (world_in l old))) named ∙ all_named (held l old) is
