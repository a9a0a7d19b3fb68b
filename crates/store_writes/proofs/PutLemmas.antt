-- What is set where it is there, and comes where it is not.
use Rattle.std.proofs.Common.{◌≡◌, ◌∙◌, inl, inr, ℕ, List, true, None, Some, Ok, Err, Result, OnOk, refl, sym, ap, subst}
use Rattle.std.specs.Prelude.{find, is_some}
use Rattle.sqlite.specs.Order.{Row}
use Rattle.sqlite.specs.State.{State}
use Rattle.registry_model.specs.declared.level.Level.{Level}
use Rattle.registry_model.specs.Command.{grant, set_repo}
use Rattle.registry_model.specs.Lookups.{mount}
use Rattle.store_schema.specs.Rows.{natural_at, integer_at}
use Rattle.store_contents.specs.Layouts.{Layout}
use Rattle.store_statements.specs.Keys.{has_key, of_first}
use Rattle.store_statements.specs.Tables.{Tables}
use Rattle.store_statements.specs.World.{world_of}
use Rattle.store_statements.specs.Registry.{is_repo, IsRegistry}
use Rattle.store_statements.specs.Changes.{with_level, grant_columns, with_quota, repo_columns, Comes}
use Rattle.store_statements.proofs.Children.{some_is}
use Rattle.store_statements.proofs.BlobWorlds.{blob_mounted}
use Rattle.store_statements.proofs.GrantWorlds.{level_set, grant_added}
use Rattle.store_statements.proofs.RepoWorlds.{quota_set, repo_added}
use Rattle.store_statements.specs.Held.{Becomes, held}
use Rattle.store_statements.specs.Steps.{grants_changed, GrantComes, repos_changed, RepoComes}
use Rattle.store_writes.proofs.RowCounts.{none_changed}
use Rattle.store_writes.specs.Puts.{SetOrCome, LevelIsPut, QuotaIsPut}
use Rattle.store_statements.specs.StepsFrom.{LinkIsPut}

-- ---- it was set, or it came

pub then_ok : {A E P Q : Type 0} (r : Result A E) → (P → Q) → OnOk r P → OnOk r Q
then_ok (Ok x) f p = f p
then_ok (Err e) f p = p

set_none : {l : Layout} → (a b : State) (token name : List ℕ) (level : Level) → find (has_key token name) (held l a).grants ≡ None → Becomes l b (grants_changed (has_key token name) (with_level level) (held l a)) → held l b ≡ held l a
set_none {l} a b token name level none became = became.1 ∙ (λ i. record (held l a) { grants = none_changed (has_key token name) (with_level level) (held l a).grants none i })

pub fresh_level : {l : Layout} → (a b : State) (token name : List ℕ) (level : Level) → find (has_key token name) (held l a).grants ≡ None → Becomes l b (grants_changed (has_key token name) (with_level level) (held l a)) → find (has_key token name) (held l b).grants ≡ None
fresh_level {l} a b token name level none became = ap (λ (t : Tables). find (has_key token name) t.grants) (set_none a b token name level none became) ∙ none

pub level_came : {l : Layout} → (a b c : State) (token name : List ℕ) (level : Level) → find (has_key token name) (held l a).grants ≡ None → Becomes l b (grants_changed (has_key token name) (with_level level) (held l a)) → GrantComes l b c (grant_columns token name level)
    → LevelIsPut (held l a) (held l c) token name level
level_came {l} a b c token name level none became came =
    let same = set_none a b token name level none became in record {
      put = inr (none, subst (λ (t : Tables). Comes t.grants (held l c).grants (grant_columns token name level)) same came.comes);
      others = subst (λ (t : Tables). held l c ≡ record t { grants = (held l c).grants }) same came.others;
    }

pub level_was_set : {l : Layout} → (a b : State) (token name : List ℕ) (level : Level) → is_some (find (has_key token name) (held l a).grants) ≡ true → Becomes l b (grants_changed (has_key token name) (with_level level) (held l a)) → LevelIsPut (held l a) (held l b) token name level
level_was_set {l} a b token name level there became = subst (λ (t : Tables). LevelIsPut (held l a) t token name level) (sym became.1) (record { put = inl (there, refl); others = refl })

set_no_quota : {l : Layout} → (a b : State) (name : List ℕ) (quota : ℕ) → find (of_first name) (held l a).repos ≡ None → Becomes l b (repos_changed (of_first name) (with_quota quota) (held l a)) → held l b ≡ held l a
set_no_quota {l} a b name quota none became = became.1 ∙ (λ i. record (held l a) { repos = none_changed (of_first name) (with_quota quota) (held l a).repos none i })

pub fresh_repo : {l : Layout} → (a b : State) (name : List ℕ) (quota : ℕ) → find (of_first name) (held l a).repos ≡ None → Becomes l b (repos_changed (of_first name) (with_quota quota) (held l a)) → find (of_first name) (held l b).repos ≡ None
fresh_repo {l} a b name quota none became = ap (λ (t : Tables). find (of_first name) t.repos) (set_no_quota a b name quota none became) ∙ none

pub repo_came : {l : Layout} → (a b c : State) (name : List ℕ) (quota : ℕ) → find (of_first name) (held l a).repos ≡ None → Becomes l b (repos_changed (of_first name) (with_quota quota) (held l a)) → RepoComes l b c (repo_columns name quota) → QuotaIsPut (held l a) (held l c) name quota
repo_came {l} a b c name quota none became came =
    let same = set_no_quota a b name quota none became in record {
      put = inr (none, subst (λ (t : Tables). Comes t.repos (held l c).repos (repo_columns name quota)) same came.comes);
      others = subst (λ (t : Tables). held l c ≡ record t { repos = (held l c).repos }) same came.others;
    }

pub quota_was_set : {l : Layout} → (a b : State) (name : List ℕ) (quota : ℕ) → is_some (find (of_first name) (held l a).repos) ≡ true → Becomes l b (repos_changed (of_first name) (with_quota quota) (held l a)) → QuotaIsPut (held l a) (held l b) name quota
quota_was_set {l} a b name quota there became = subst (λ (t : Tables). QuotaIsPut (held l a) t name quota) (sym became.1) (record { put = inl (there, refl); others = refl })

-- ---- the worlds

pub level_put : (t after : Tables) (token name : List ℕ) (level : Level) → IsRegistry t → is_repo t.repos name ≡ true → LevelIsPut t after token name level → (world_of after ≡ grant (world_of t) token name level) × IsRegistry after
level_put t after token name level is there it = subst (λ (x : Tables). (world_of x ≡ grant (world_of t) token name level) × IsRegistry x) (sym it.others) (go it.put)
  where
    Made : List Row → Type 0
    Made rows = (world_of (record t { grants = rows }) ≡ grant (world_of t) token name level) × IsRegistry (record t { grants = rows })

    go : SetOrCome (has_key token name) (with_level level) (grant_columns token name level) t.grants after.grants → Made after.grants
    go (inl set) = let found = some_is (find (has_key token name) t.grants) set.0 in subst Made (sym set.1) (level_set t token name level found.0 is found.1)
    go (inr came) = grant_added t token name level after.grants is there came.0 came.1

pub quota_put : (t after : Tables) (name : List ℕ) (quota : ℕ) → IsRegistry t → QuotaIsPut t after name quota → (world_of after ≡ set_repo (world_of t) name quota) × IsRegistry after
quota_put t after name quota is it = subst (λ (x : Tables). (world_of x ≡ set_repo (world_of t) name quota) × IsRegistry x) (sym it.others) (go it.put)
  where
    Made : List Row → Type 0
    Made rows = (world_of (record t { repos = rows }) ≡ set_repo (world_of t) name quota) × IsRegistry (record t { repos = rows })

    go : SetOrCome (of_first name) (with_quota quota) (repo_columns name quota) t.repos after.repos → Made after.repos
    go (inl set) = subst Made (sym set.1) (quota_set t name quota is set.0)
    go (inr came) = repo_added t name quota after.repos is came.0 came.1

pub link_mounted : (t after : Tables) (source name digest : List ℕ) (other : Row) → IsRegistry t → is_repo t.repos name ≡ true → find (has_key source digest) t.blobs ≡ Some other → find (has_key name digest) t.blobs ≡ None
    → LinkIsPut t after name digest (natural_at other 3) (integer_at other 4) → (world_of after ≡ mount (world_of t) source name digest) × IsRegistry after
link_mounted t after source name digest other is there found fresh it =
    subst (λ (x : Tables). (world_of x ≡ mount (world_of t) source name digest) × IsRegistry x) (sym it.others) (blob_mounted t source name digest other after.blobs is there found fresh it.comes)
