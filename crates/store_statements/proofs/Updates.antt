-- Changes of one repository, one after the other.
use Rattle.std.proofs.Common.{◌≡◌, Bool, true, false, cond, None, Some, refl, sym, ap, ◌∙◌}
use Rattle.std.specs.Prelude.{Option}
use Rattle.std.specs.Ordering.{eq_by_cmp}
use Rattle.std.specs.FinMap.{get, insert, get-insert, same_map}
use Rattle.std.proofs.lemmas.Cmp.{nat_list_cmp_total, eq_by_cmp_equiv}
use Rattle.std.proofs.lemmas.Map.Lookups.{exact_bytes}
use Rattle.oci_types.specs.Text.{Text}
use Rattle.registry_model.specs.World.{text_cmp, Repo, World, repo_at, with_repo, update_repo}
use Rattle.registry_model.specs.Manifests.{with_tag}

pub repo_put : (w : World) (name : Text) (r : Repo) → repo_at (with_repo w name r) name ≡ Some r
repo_put w name r = get-insert nat_list_cmp_total w.repos name r name ∙ ap (λ b. cond b (Some r) (repo_at w name)) ((eq_by_cmp_equiv nat_list_cmp_total).refl name)

pub put_twice : (w : World) (name : Text) (first second : Repo) → with_repo (with_repo w name first) name second ≡ with_repo w name second
put_twice w name first second = λ i. record w {
  repos = same_map nat_list_cmp_total exact_bytes (insert (insert w.repos name first) name second) (insert w.repos name second) (λ q.
      get-insert nat_list_cmp_total (insert w.repos name first) name second q ∙ ap (cond (eq_by_cmp text_cmp q name) (Some second)) (get-insert nat_list_cmp_total w.repos name first q)
      ∙ hidden (eq_by_cmp text_cmp q name) (get w.repos q) ∙ sym (get-insert nat_list_cmp_total w.repos name second q)) i;
}
  where
    hidden : (b : Bool) (o : Option Repo) → cond b (Some second) (cond b (Some first) o) ≡ cond b (Some second) o
    hidden true o = refl
    hidden false o = refl

-- two changes of a repository are one
pub update_twice : (w : World) (name : Text) (f g : Repo → Repo) → let between : World = update_repo w name f (repo_at w name) in update_repo between name g (repo_at between name) ≡ update_repo w name (λ r. g (f r)) (repo_at w name)
update_twice w name f g = go (repo_at w name) refl
  where
    go : (o : Option Repo) → repo_at w name ≡ o → update_repo (update_repo w name f o) name g (repo_at (update_repo w name f o) name) ≡ update_repo w name (λ r. g (f r)) o
    go None e = ap (update_repo w name g) e
    go (Some r) e = ap (update_repo (with_repo w name (f r)) name g) (repo_put w name (f r)) ∙ put_twice w name (f r) (g (f r))

-- ---- a tag

abbrev pub set_tag : World → Text → Text → Text → World
set_tag w name tag digest = update_repo w name (λ r. with_tag r (Some tag) digest) (repo_at w name)
