-- What the copy of one repository is.
use Rattle.std.proofs.Common.{◌≡◌, ◌∙◌, inl, ℕ, [], map, true, false, Option, Some, None, refl, sym, ap, subst}
use Rattle.std.specs.Prelude.{is_some, option_map}
use Rattle.std.specs.Option.{option_and_then, option_map_or}
use Rattle.std.specs.List.{AllByRecursion}
use Rattle.std.specs.FinMap.{FinMap, get, empty, entries, keys, find, get-empty, contains_key-keys, same_map}
use Rattle.std.specs.FinMap.Entries.{is_some-find}
use Rattle.oci_types.specs.Text.{Text}
use Rattle.registry_model.specs.declared.level.Level.{Level}
use Rattle.registry_model.specs.World.{Repo, World, text_cmp, repo_at, has_repo, level_at, new_repo, with_repo}
use Rattle.registry_model.specs.Lookups.{blob_at, manifest_bytes_at, tags_at, blob_digests_at, manifest_digests_at, last_number_at}
use Rattle.registry_model.specs.Command.{with_quota, without_sessions}
use Rattle.registry_model.proofs.TextOrder.{text_total, exact_texts}
use Rattle.registry_copy.specs.Steps.{Chain}
use Rattle.registry_copy.specs.Restoring.{set_last}
use Rattle.registry_copy.specs.Parts.{BlobComes, ContentComes, TagComes, LevelComes, LevelsCome, RepoBegins, HeldComes, RepoComes}
use Rattle.registry_copy.specs.declared.contents.ContentKind.TheVariants.{Manifest}
use Rattle.registry_copy.proofs.KeyLemmas.{no_value_in, Within, covered, found_each, entries_found, all_mapped}
use Rattle.registry_copy.proofs.ChainLemmas.{Elsewhere, then_elsewhere, as_elsewhere, put_elsewhere, update_elsewhere, grant_elsewhere, chain_elsewhere, blob_elsewhere, manifest_elsewhere, Stands, stands_as, stands_put, stands_updated, blobs_stand, manifests_stand, tags_stand, levels_stand}

-- ---- elsewhere

pub begins_elsewhere : (name : Text) (quota : ℕ) (w w' : World) → RepoBegins name quota w w' → Elsewhere name w w'
begins_elsewhere name quota w w' b = as_elsewhere name w _ w' b.is (put_elsewhere name w (with_quota (repo_at w name) quota))

pub held_elsewhere : (a : World) (name : Text) (w w' : World) → HeldComes a name w w' → Elsewhere name w w'
held_elsewhere a name w w' h =
    then_elsewhere name w h.blobs w' (chain_elsewhere (BlobComes a name) name (blob_elsewhere a name) (blob_digests_at a name) w h.blobs h.blobs_come)
    (then_elsewhere name h.blobs h.manifests w'
    (chain_elsewhere (ContentComes Manifest a name) name (λ d. manifest_elsewhere a name d None) (manifest_digests_at a name) h.blobs h.manifests h.manifests_come)
    (chain_elsewhere (TagComes a name) name (λ e. manifest_elsewhere a name e.1 (Some e.0)) (tags_at a name) h.manifests w' h.tags_come))

pub levels_elsewhere : (a : World) (name : Text) (w w' : World) → LevelsCome a name w w' → Elsewhere name w w'
levels_elsewhere a name w w' l =
    chain_elsewhere (LevelComes name) name (λ e u m is. as_elsewhere name u _ m is (grant_elsewhere name e.0 u e.1)) l.levels w w' l.come

pub repo_elsewhere : (a : World) (name : Text) (quota : ℕ) (w w' : World) → RepoComes a name quota w w' → Elsewhere name w w'
repo_elsewhere a name quota w w' c =
    let last = last_number_at a name in
    then_elsewhere name w c.begun w' (begins_elsewhere name quota w c.begun c.begins)
    (then_elsewhere name c.begun (set_last c.begun name last) w' (update_elsewhere name c.begun (λ r. record r { last = last }) (repo_at c.begun name))
    (then_elsewhere name (set_last c.begun name last) c.held w' (held_elsewhere a name _ c.held c.held_comes) (levels_elsewhere a name c.held w' c.levels_come)))

-- ---- here

-- a map that agrees with another at its keys, and has no other, is it
whole : {X : Type 0} (m n : FinMap text_cmp X) → Within (get m) (get n) → AllByRecursion (λ k. get m k ≡ get n k) (keys n) → m ≡ n
whole m n within all = same_map text_total exact_texts m n (covered (get m) (get n) (keys n) (contains_key-keys n) within all)

from_nothing : {X : Type 0} (n : FinMap text_cmp X) → Within (get (empty {X = X} {R = text_cmp})) (get n)
from_nothing n q = inl (get-empty text_cmp q)

pub fresh_repo : (w : World) (name : Text) → has_repo w name ≡ false → repo_at w name ≡ None
fresh_repo w name e = no_value_in (repo_at w name) e

pub repo_begun : (name : Text) (quota : ℕ) (w w' : World) → RepoBegins name quota w w' → Stands w w' name (new_repo quota)
repo_begun name quota w w' b =
    stands_as w _ w' name (new_repo quota) b.is
    (subst (λ o. Stands w (with_repo w name (with_quota o quota)) name (new_repo quota)) (sym (fresh_repo w name b.fresh)) (stands_put w w name (new_repo quota) refl))

pub begun_there : (name : Text) (quota : ℕ) (w w' : World) → RepoBegins name quota w w' → has_repo w' name ≡ true
begun_there name quota w w' b = ap is_some (repo_begun name quota w w' b).here

pub begun_new : (name : Text) (quota : ℕ) (w w' : World) → RepoBegins name quota w w' → last_number_at w' name ≡ 0
begun_new name quota w w' b = ap (λ o. option_map_or (λ (r : Repo). r.last) o 0) (repo_begun name quota w w' b).here

-- what a repository holds came to one that had nothing
module _ (a : World) (name : Text) (it : Repo) (at : repo_at a name ≡ Some it) where
  blob_here : (d : Text) → blob_at a name d ≡ get it.blobs d
  blob_here d = ap (λ o. option_and_then (λ (r : Repo). get r.blobs d) o) at

  manifest_here : (d : Text) → manifest_bytes_at a name d ≡ get it.manifests d
  manifest_here d = ap (λ o. option_and_then (λ (r : Repo). get r.manifests d) o) at

  held_here : (quota last : ℕ) (w0 w w' : World) → Stands w0 w name (record (new_repo quota) { last = last }) → HeldComes a name w w'
      → Stands w0 w' name (record it { sessions = empty; last = last; quota = quota })
  held_here quota last w0 w w' s h =
      let r0 : Repo = record (new_repo quota) { last = last } in
      let first = blobs_stand a name it.blobs blob_here (keys it.blobs) w0 w h.blobs r0 s (from_nothing it.blobs)
      (subst (λ ds. Chain (BlobComes a name) ds w h.blobs) (ap (λ o. option_map_or (λ (r : Repo). keys r.blobs) o []) at) h.blobs_come) in
      let r1 : Repo = record r0 { blobs = it.blobs } in
      let s1 : Stands w0 h.blobs name r1 =
      subst (λ b. Stands w0 h.blobs name (record r0 { blobs = b })) (whole first.map it.blobs first.gains.within first.all) first.stands in
      let next = manifests_stand a name it.manifests manifest_here (keys it.manifests) w0 h.blobs h.manifests r1 s1 (from_nothing it.manifests)
      (subst (λ ds. Chain (ContentComes Manifest a name) ds h.blobs h.manifests) (ap (λ o. option_map_or (λ (r : Repo). keys r.manifests) o []) at) h.manifests_come) in
      let r2 : Repo = record r1 { manifests = it.manifests } in
      let s2 : Stands w0 h.manifests name r2 =
      subst (λ b. Stands w0 h.manifests name (record r1 { manifests = b })) (whole next.map it.manifests next.gains.within next.all) next.stands in
      let last_part = tags_stand a name it.tags (entries it.tags) w0 h.manifests w' r2 s2 (from_nothing it.tags) manifest_here (entries_found it.tags)
      (subst (λ es. Chain (TagComes a name) es h.manifests w') (ap (λ o. option_map_or (λ (r : Repo). entries r.tags) o []) at) h.tags_come) in
      subst (λ b. Stands w0 w' name (record r2 { tags = b })) (whole last_part.map it.tags last_part.gains.within last_part.all) last_part.stands

-- the repository of the name, and the levels on it, are as in the world a, without sessions
pub record IsDone (a w : World) (q : Text) : Type 0 where
  pub repo : repo_at w q ≡ option_map without_sessions (repo_at a q)
  pub levels : (token : Text) → level_at w token q ≡ level_at a token q

levels_here : (a : World) (name : Text) (w w' : World) → LevelsCome a name w w' → ((token : Text) → level_at w token name ≡ None)
    → (w'.repos ≡ w.repos) × ((token : Text) → level_at w' token name ≡ level_at a token name)
levels_here a name w w' c none =
    let n : Text → Option Level = λ token. level_at a token name in
    let found : AllByRecursion (λ (l : Text × Level). n l.0 ≡ Some l.1) c.levels =
    all_mapped (λ (l : Text × Level). find text_cmp l.0 c.levels ≡ Some l.1) (λ l. n l.0 ≡ Some l.1) c.levels
    (λ l is. sym (c.are.each l.0) ∙ is) (found_each c.levels c.are.rise) in
    let done = levels_stand name n c.levels w w' found (λ token. inl (none token)) c.come in (
      done.repos,
      covered (λ token. level_at w' token name) n (map (λ (l : Text × Level). l.0) c.levels)
          (λ q. ap is_some (sym (c.are.each q)) ∙ is_some-find text_cmp q c.levels) done.gains.within done.all,
    )

pub repo_done : (a : World) (name : Text) (it : Repo) → repo_at a name ≡ Some it → (w w' : World) → ((token : Text) → level_at w token name ≡ None)
    → RepoComes a name it.quota w w' → IsDone a w' name
repo_done a name it at w w' none c =
    let last : last_number_at a name ≡ it.last = ap (λ o. option_map_or (λ (r : Repo). r.last) o 0) at in
    let begun = repo_begun name it.quota w c.begun c.begins in
    let numbered = stands_updated w c.begun name (λ r. record r { last = last_number_at a name }) (new_repo it.quota) begun in
    let held = held_here a name it at it.quota (last_number_at a name) w _ c.held numbered c.held_comes in
    let levels = levels_here a name c.held w' c.levels_come (λ token. ap (λ g. get (g token) name) held.grants ∙ none token) in
    record {
      repo = ap (λ m. get m name) levels.0 ∙ held.here
          ∙ ap (λ n. Some (record it { sessions = empty; last = n })) last
          ∙ ap (λ o. option_map without_sessions o) (sym at);
      levels = levels.1;
    }
