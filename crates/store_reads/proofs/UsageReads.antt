-- What rows tell of what a repository holds and may hold.
use Rattle.std.proofs.Common.{◌≡◌, ◌∙◌, ◌+◌, ℕ, filter, find, length, None, Some, Result, IfOk, refl, sym, ap}
use Rattle.std.specs.Prelude.{Option, option_map}
use Rattle.std.specs.Option.{option_map_or}
use Rattle.std.proofs.lemmas.Result.{IfOk-weaker}
use Rattle.sqlite.specs.Order.{Row}
use Rattle.sqlite.specs.State.{State}
use Rattle.oci_types.specs.Text.{Text}
use Rattle.oci_types.specs.declared.fault.Fault.{Fault}
use Rattle.registry_model.specs.declared.quota.Usage.{Usage}
use Rattle.registry_model.specs.Usage.{in_64_bits}
use Rattle.registry_model.specs.Lookups.{usage_at, no_usage}
use Rattle.store_contents.specs.Layouts.{Layout}
use Rattle.store_statements.specs.Keys.{of_first}
use Rattle.store_statements.specs.Tables.{Tables}
use Rattle.store_statements.specs.World.{world_of}
use Rattle.store_statements.specs.Registry.{IsRegistry}
use Rattle.store_statements.proofs.Usages.{usage_in, usage_found, sizes, count}
use Rattle.store_reads.specs.declared.tallies.Holdings.{Holdings}
use Rattle.store_statements.specs.declared.repos.RepoRow.{RepoRow}
use Rattle.store_statements.specs.Held.{held, tables_in, world_in}
use Rattle.store_statements.specs.Shown.{repo_row}
use Rattle.store_reads.specs.Tallies.{holdings_in, usage_from}
use Rattle.store_reads.proofs.TallyLemmas.{three_totals}

-- the holdings, then the tags, of a database that stays
pub under_quota : (l : Layout) → (old mid : State) (name : Text) (quota tags : ℕ) (h : Holdings) (u : Usage) → mid.now ≡ old.now
    → h ≡ holdings_in (held l old) name → tags ≡ length (filter (of_first name) (held l mid).tags) → u ≡ usage_from h tags quota
    → u ≡ usage_from (holdings_in (held l old) name) (length (filter (of_first name) (held l old).tags)) quota
under_quota l old mid name quota tags h u same holds tagged is =
    is ∙ ap (λ x. usage_from x tags quota) holds ∙ ap (λ n. usage_from (holdings_in (held l old) name) n quota) (tagged ∙ ap (λ db. length (filter (of_first name) (tables_in l db).tags)) same)

abbrev pub usage_held : Tables → Text → ℕ → Usage
usage_held t name quota = usage_from (holdings_in t name) (length (filter (of_first name) t.tags)) quota

abbrev usage_counted_as : Tables → Text → ℕ → Usage
usage_counted_as t name quota = record {
  used = in_64_bits (sizes t.blobs name + sizes t.manifests name + sizes t.uploads name);
  quota = quota;
  blobs = count t.blobs name;
  manifests = count t.manifests name;
  tags = count t.tags name;
  sessions = count t.uploads name;
}

usage_counted : (t : Tables) (name : Text) (quota : ℕ) → usage_held t name quota ≡ usage_counted_as t name quota
usage_counted t name quota = λ i. record (usage_held t name quota) { used = three_totals (sizes t.blobs name) (sizes t.manifests name) (sizes t.uploads name) i }

-- of a repository that is there
pub usage_there : (t : Tables) (name : Text) (row : RepoRow) → IsRegistry t → Some row ≡ option_map repo_row (find (of_first name) t.repos) → usage_held t name row.quota ≡ usage_at (world_of t) name
usage_there t name row is has = usage_counted t name row.quota ∙ go (find (of_first name) t.repos) has ∙ sym (usage_found t name is)
  where
    go : (o : Option Row) → Some row ≡ option_map repo_row o → usage_counted_as t name row.quota ≡ option_map_or (usage_in t name) o no_usage
    go None e = absurd cc
    go (Some r) e = ap (λ (x : Option RepoRow). option_map_or (λ y. usage_counted_as t name y.quota) x no_usage) e

-- and of one that is not
pub usage_not_there : (t : Tables) (name : Text) → IsRegistry t → ◌≡◌ {A = Option RepoRow} None (option_map repo_row (find (of_first name) t.repos)) → no_usage ≡ usage_at (world_of t) name
usage_not_there t name is has = go (find (of_first name) t.repos) has ∙ sym (usage_found t name is)
  where
    go : (o : Option Row) → ◌≡◌ {A = Option RepoRow} None (option_map repo_row o) → no_usage ≡ option_map_or (usage_in t name) o no_usage
    go None e = refl
    go (Some r) e = absurd cc

-- the repository's row, then its usage, of a database that stays
pub usage_shown : (l : Layout) → (old mid : State) (name : Text) (row : RepoRow) (r : Result Usage Fault) → IsRegistry (held l old) → mid.now ≡ old.now → Some row ≡ option_map repo_row (find (of_first name) (held l old).repos)
    → IfOk r (λ u. u ≡ usage_held (held l mid) name row.quota) → IfOk r (λ u. u ≡ usage_at (world_in l old) name)
usage_shown l old mid name row r is same has =
    IfOk-weaker r (λ u. u ≡ usage_held (held l mid) name row.quota) (λ u. u ≡ usage_at (world_in l old) name) (λ u e. e ∙ ap (λ db. usage_held (tables_in l db) name row.quota) same ∙ usage_there (held l old) name row is has)
