-- Repositories: found by their rows, added, and given another quota.
use Rattle.std.proofs.Common.{◌≡◌, ◌≤◌, ℕ, List, ◌∷◌, map, Bool, true, false, cond, None, Some, refl, sym, ap, ◌∙◌, true≢false, le_trans, le_of_eq, le_refl}
use Rattle.std.specs.Prelude.{bytes_eq, find, Option, option_map, is_some}
use Rattle.std.specs.Option.{option_map_or}
use Rattle.std.specs.FinMap.{insert, from_entries}
use Rattle.std.proofs.lemmas.Cmp.{nat_list_cmp_total}
use Rattle.std.proofs.lemmas.Map.Lookups.{exact_bytes}
use Rattle.sqlite.specs.declared.types.Value.TheVariants.{Int}
use Rattle.sqlite.specs.Order.{Row}
use Rattle.sqlite_trees.proofs.ListLemmas.{all_weaker, all_both}
use Rattle.oci_types.specs.Text.{Text}
use Rattle.registry_model.specs.World.{Repo, has_repo, repo_at, new_repo, with_repo, update_repo}
use Rattle.registry_model.specs.Command.{set_repo}
use Rattle.registry_model.specs.Command as command
use Rattle.registry_model.specs.Lookups.{last_number_at}
use Rattle.store_schema.specs.Rows.{bytes_at, natural_at}
use Rattle.store_schema.proofs.Lists.{bytes_eq_true}
use Rattle.store_statements.specs.Keys.{of_first, same_first}
use Rattle.store_statements.specs.Tables.{Tables, AreRows, IsRepoRow}
use Rattle.store_statements.specs.World.{blob_entry, manifest_entry, tag_entry, session_entry, repo_in, grants_of, world_of}
use Rattle.store_statements.specs.Registry.{is_repo, last_in, IsRegistry, UploadAgrees}
use Rattle.store_statements.specs.Changes.{changed, with_quota, Comes, repo_columns}
use Rattle.store_statements.proofs.Found.{find_changed, find_came, map_came}
use Rattle.store_statements.proofs.Base.{first_tie, repo_found, updated}
use Rattle.store_statements.proofs.Kept.{rows_changed, rows_came, same_first-sym}
use Rattle.store_statements.proofs.Children.{some_is, no_children}

-- ---- reads

pub still_some : {A B : Type 0} (f : A → B) (o : Option A) → is_some (option_map f o) ≡ is_some o
still_some f None = refl
still_some f (Some x) = refl

pub has_repo_found : (t : Tables) (name : Text) → has_repo (world_of t) name ≡ is_some (find (of_first name) t.repos)
has_repo_found t name = ap is_some (repo_found t name) ∙ still_some (repo_in t) (find (of_first name) t.repos)

pub last_number_found : (t : Tables) (name : Text) → last_number_at (world_of t) name ≡ last_in t.repos name
last_number_found t name = ap (λ o. option_map_or (λ (r : Repo). r.last) o 0) (repo_found t name) ∙ go (find (of_first name) t.repos)
  where
    go : (o : Option Row) → option_map_or (λ (r : Repo). r.last) (option_map (repo_in t) o) 0 ≡ option_map_or (λ r. natural_at r 3) o 0
    go None = refl
    go (Some r) = refl

-- ---- a registry with other rows of repositories

-- each one that was there is still there, and its last number did not fall
pub with_repos_rows : (t : Tables) (repos : List Row) → IsRegistry t → AreRows IsRepoRow same_first repos → ((name : Text) → is_repo t.repos name ≡ true → is_repo repos name ≡ true) → ((name : Text) → is_repo t.repos name ≡ true → last_in t.repos name ≤ last_in repos name)
    → IsRegistry (record t { repos = repos })
with_repos_rows t repos is are there last = record {
  tables = record { repos = are; grants = is.tables.grants; tags = is.tables.tags; blobs = is.tables.blobs; manifests = is.tables.manifests; uploads = is.tables.uploads; pieces = is.tables.pieces };
  agree = record {
    version = is.agree.version;
    granted = all_weaker _ _ (λ r. there (bytes_at r 2)) t.grants is.agree.granted;
    tagged = all_weaker _ _ (λ r. there (bytes_at r 1)) t.tags is.agree.tagged;
    blobs_repo = all_weaker _ _ (λ r. there (bytes_at r 1)) t.blobs is.agree.blobs_repo;
    manifests_repo = all_weaker _ _ (λ r. there (bytes_at r 1)) t.manifests is.agree.manifests_repo;
    uploads_repo = all_weaker _ _ (λ r. there (bytes_at r 1)) t.uploads is.agree.uploads_repo;
    blobs = is.agree.blobs;
    manifests = is.agree.manifests;
    uploads = all_both _ _ (UploadAgrees repos t.pieces) (λ r h have. record { whole = h.whole; given = le_trans h.given (last (bytes_at r 1) have) }) t.uploads is.agree.uploads is.agree.uploads_repo;
    pieces = is.agree.pieces;
    pieces_open = is.agree.pieces_open;
    beside = is.agree.beside;
  };
}

-- ---- a repository changes, and keeps its name

pub is_repo_changed : (name other : Text) (f : Row → Row) (repos : List Row) → ((r : Row) → bytes_at (f r) 1 ≡ bytes_at r 1) → is_repo (changed (of_first name) f repos) other ≡ is_repo repos other
is_repo_changed name other f repos keeps = ap is_some (find_changed (of_first name) (of_first other) f (λ r. ap (λ n. bytes_eq n other) (keeps r)) repos) ∙ still_some _ (find (of_first other) repos)

last_kept : (p : Row → Bool) (f : Row → Row) (o : Option Row) → ((r : Row) → natural_at r 3 ≤ natural_at (f r) 3) → option_map_or (λ r. natural_at r 3) o 0 ≤ option_map_or (λ r. natural_at r 3) (option_map (λ r. cond (p r) (f r) r) o) 0
last_kept p f None rises = le_refl 0
last_kept p f (Some r) rises = step (p r)
  where
    step : (b : Bool) → natural_at r 3 ≤ natural_at (cond b (f r) r) 3
    step true = rises r
    step false = le_refl (natural_at r 3)

pub last_in_changed : (name other : Text) (f : Row → Row) (repos : List Row) → ((r : Row) → bytes_at (f r) 1 ≡ bytes_at r 1) → ((r : Row) → natural_at r 3 ≤ natural_at (f r) 3) → last_in repos other ≤ last_in (changed (of_first name) f repos) other
last_in_changed name other f repos keeps rises =
    le_trans (last_kept (of_first name) f (find (of_first other) repos) rises) (le_of_eq (ap (λ o. option_map_or (λ r. natural_at r 3) o 0) (sym (find_changed (of_first name) (of_first other) f (λ r. ap (λ n. bytes_eq n other) (keeps r)) repos))))

pub quota_set : (t : Tables) (name : Text) (quota : ℕ) → IsRegistry t → is_repo t.repos name ≡ true
    → let after : Tables = record t { repos = changed (of_first name) (with_quota quota) t.repos } in (world_of after ≡ set_repo (world_of t) name quota) × IsRegistry after
quota_set t name quota is there = (
  updated t after name change (with_quota quota) refl refl (λ r. refl) (record { blobs = λ other e. refl; manifests = λ other e. refl; tags = λ other e. refl; sessions = λ other e. refl }) (λ r e. refl) ∙ set,
  with_repos_rows t repos is
      (rows_changed IsRepoRow same_first (of_first name) (with_quota quota) t.repos (λ r h. record { name = h.name; quota = refl; last = h.last }) (λ a b. refl) (λ a b. refl) (λ r. refl) is.tables.repos)
      (λ other e. is_repo_changed name other (with_quota quota) t.repos (λ r. refl) ∙ e)
      (λ other e. last_in_changed name other (with_quota quota) t.repos (λ r. refl) (λ r. le_refl (natural_at r 3))),
)
  where
    repos : List Row
    repos = changed (of_first name) (with_quota quota) t.repos

    after : Tables
    after = record t { repos = repos }

    change : Repo → Repo
    change r = record r { quota = quota }

    set : update_repo (world_of t) name change (repo_at (world_of t) name) ≡ set_repo (world_of t) name quota
    set =
        let row = some_is (find (of_first name) t.repos) there in
        let at : repo_at (world_of t) name ≡ Some (repo_in t row.0) = repo_found t name ∙ ap (option_map (repo_in t)) row.1 in
        ap (update_repo (world_of t) name change) at ∙ sym (ap (λ o. with_repo (world_of t) name (command.with_quota o quota)) at)

-- ---- a repository is added

pub repo_added : (t : Tables) (name : Text) (quota : ℕ) (rows : List Row) → IsRegistry t → find (of_first name) t.repos ≡ None → Comes t.repos rows (repo_columns name quota)
    → let after : Tables = record t { repos = rows } in (world_of after ≡ set_repo (world_of t) name quota) × IsRegistry after
repo_added t name quota rows is none c = (
  (λ i. record { repos = (map_came nat_list_cmp_total exact_bytes (λ r. bytes_at r 1) (repo_in t) of_first first_tie name t.repos rows columns c (λ id. refl) none ∙ ap (insert (world_of t).repos name) made) i; grants = grants_of t.grants })
      ∙ sym (ap (λ o. with_repo (world_of t) name (command.with_quota o quota)) (repo_found t name ∙ ap (option_map (repo_in t)) none)),
  with_repos_rows t rows is (rows_came IsRepoRow same_first t.repos rows columns c same_first-sym (λ id. record { name = refl; quota = refl; last = refl }) none is.tables.repos)
      (λ other e. ap is_some (stays other e) ∙ e)
      (λ other e. le_of_eq (ap (λ o. option_map_or (λ r. natural_at r 3) o 0) (sym (stays other e)))),
)
  where
    columns : Row
    columns = repo_columns name quota

    row : Row
    row = Int c.id ∷ columns

    made : repo_in t row ≡ new_repo quota
    made = λ i. record {
      blobs = from_entries (map (blob_entry t.contents) (no_children t.repos t.blobs name is.agree.blobs_repo none i));
      manifests = from_entries (map (manifest_entry t.contents) (no_children t.repos t.manifests name is.agree.manifests_repo none i));
      tags = from_entries (map tag_entry (no_children t.repos t.tags name is.agree.tagged none i));
      sessions = from_entries (map (session_entry t.contents t.pieces) (no_children t.repos t.uploads name is.agree.uploads_repo none i));
      last = 0;
      quota = quota;
    }

    -- one that was there is found as it was
    stays : (other : Text) → is_repo t.repos other ≡ true → find (of_first other) rows ≡ find (of_first other) t.repos
    stays other e = find_came (of_first other) (of_first name) t.repos rows columns c none (λ same r. ap (λ n. of_first n r) (sym (bytes_eq_true name other same))) ∙ step (of_first other row) refl
      where
        step : (b : Bool) → of_first other row ≡ b → cond b (Some row) (find (of_first other) t.repos) ≡ find (of_first other) t.repos
        step true same = absurd (true≢false (sym e ∙ ap (is_repo t.repos) (sym (bytes_eq_true name other same)) ∙ ap is_some none))
        step false apart = refl
