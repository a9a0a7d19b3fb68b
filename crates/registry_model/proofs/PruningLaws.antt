-- What prune keeps and what it takes away.
use Rattle.std.proofs.Common.{◌≡◌, ◌≢◌, ◌∙◌, List, [], ◌∷◌, map, Bool, true, false, cond, ◌&&◌, ◌||◌, Option, Some, None, Ok, refl, sym, ap, subst}
use Rattle.std.specs.Prelude.{is_some, option_map}
use Rattle.std.specs.List.{list_any, list_all}
use Rattle.std.specs.Ordering.{is_eq, eq_by_cmp}
use Rattle.std.specs.Cmp.{eq_by_cmp_equiv}
use Rattle.std.specs.FinMap.{get, entries, get-entries, get-insert}
use Rattle.std.specs.FinMap.Entries.{find}
use Rattle.oci_types.specs.Text.{Text}
use Rattle.oci_types.specs.Manifest.{ManifestShown, manifest_in}
use Rattle.oci_types.proofs.NeededNamed.{needs_named}
use Rattle.registry_model.specs.World.{text_cmp, Repo, World, repo_at, update_repo}
use Rattle.registry_model.specs.Manifests.{has_needs}
use Rattle.registry_model.specs.Soundness.{IsSoundRepo}
use Rattle.registry_model.specs.Blobs.{without_blob}
use Rattle.registry_model.specs.Pruning.{names_of, names_in, is_among, is_named, pruned, prune, without_blobs}
use Rattle.registry_model.proofs.TextOrder.{text_total, same_key}
use Rattle.registry_model.proofs.ChangedMaps.{same_Some, not_Some}
use Rattle.registry_model.proofs.SoundRepositories.{sound_without_blob}
use Rattle.registry_model.proofs.BlobsTakenAway.{pruned_blobs, unnamed, unnamed_taken}

pub keeps : (r : Repo) (digest : Text) → is_named r digest ≡ true → get (pruned r).blobs digest ≡ get r.blobs digest
keeps r digest h = pruned_blobs r digest ∙ ap (λ b. cond b (get r.blobs digest) None) h

pub takes : (r : Repo) (digest : Text) → is_named r digest ≡ false → get (pruned r).blobs digest ≡ None
takes r digest h = pruned_blobs r digest ∙ ap (λ b. cond b (get r.blobs digest) None) h

-- ---- what a manifest needs

in_rest : (a b : Bool) → b ≡ true → (a || b) ≡ true
in_rest true b e = refl
in_rest false b e = e

-- a value that is found is among the values
found_value : (p : Text → Bool) (q v : Text) (es : List (Text × Text)) → find text_cmp q es ≡ Some v → p v ≡ true → list_any p (map (λ e. e.1) es) ≡ true
found_value p q v [] h t = absurd (not_Some v h)
found_value p q v (e ∷ es) h t = by (is_eq (text_cmp q e.0)) h (λ k. found_value p q v es k t)
  where
    by : (b : Bool) → cond b (Some e.1) (find text_cmp q es) ≡ Some v → (find text_cmp q es ≡ Some v → list_any p (map (λ d. d.1) es) ≡ true)
        → (p e.1 || list_any p (map (λ d. d.1) es)) ≡ true
    by true k rest = ap (λ b. b || list_any p (map (λ d. d.1) es)) (ap p (same_Some e.1 v k) ∙ t)
    by false k rest = in_rest (p e.1) _ (rest k)

both : (a b : Bool) → (a && b) ≡ true → (a ≡ true) × (b ≡ true)
both true b h = (refl, h)
both false b h = absurd (cc)

module _ (r : Repo) where
  named_by : (m bytes digest : Text) → get r.manifests m ≡ Some bytes → is_among (names_in bytes) digest ≡ true → is_named r digest ≡ true
  named_by m bytes digest there named = found_value (λ b. is_among (names_in b) digest) m bytes (entries r.manifests) (sym (get-entries r.manifests m) ∙ there) named

  same_needs : (names needs : List Text) → ((d : Text) → is_among names d ≡ true → is_named r d ≡ true) → list_all (is_among names) needs ≡ true
      → has_needs (pruned r) needs ≡ has_needs r needs
  same_needs names [] named h = refl
  same_needs names (d ∷ ds) named h =
      let parts = both (is_among names d) (list_all (is_among names) ds) h in
      ap (λ o. is_some o && has_needs (pruned r) ds) (keeps r d (named d parts.0))
      ∙ ap (λ b. is_some (get r.blobs d) && b) (same_needs names ds named parts.1)

  pub keeps_needs : (m bytes : Text) (shown : ManifestShown) → get r.manifests m ≡ Some bytes → manifest_in bytes ≡ Ok shown
      → has_needs (pruned r) shown.needs ≡ has_needs r shown.needs
  keeps_needs m bytes shown there reads =
      same_needs shown.names shown.needs (λ d named. named_by m bytes d there (ap (λ o. is_among (names_of o) d) reads ∙ named)) (needs_named bytes shown reads)

-- ---- the world

pub prunes_itself : (w : World) (name : Text) → repo_at (prune w name) name ≡ option_map pruned (repo_at w name)
prunes_itself w name = by (repo_at w name) refl
  where
    by : (o : Option Repo) → repo_at w name ≡ o → repo_at (update_repo w name pruned o) name ≡ option_map pruned o
    by None e = e
    by (Some r) e = get-insert text_total w.repos name (pruned r) name ∙ ap (λ b. cond b (Some (pruned r)) (repo_at w name)) ((eq_by_cmp_equiv text_total).refl name)

pub prunes_no_other : (w : World) (name other : Text) → name ≢ other → repo_at (prune w name) other ≡ repo_at w other
prunes_no_other w name other apart = by (repo_at w name)
  where
    at : (r : Repo) (b : Bool) → eq_by_cmp text_cmp other name ≡ b → cond b (Some (pruned r)) (repo_at w other) ≡ repo_at w other
    at r true e = absurd (apart (sym (same_key other name e)))
    at r false e = refl

    by : (o : Option Repo) → repo_at (update_repo w name pruned o) other ≡ repo_at w other
    by None = refl
    by (Some r) = get-insert text_total w.repos name (pruned r) other ∙ at r (eq_by_cmp text_cmp other name) refl

-- ---- a sound repository stays sound

sound_without_blobs : (digests : List Text) (r : Repo) → IsSoundRepo r → IsSoundRepo (without_blobs r digests)
sound_without_blobs [] r s = s
sound_without_blobs (d ∷ ds) r s = sound_without_blobs ds (without_blob r d) (sound_without_blob r s d)

pub sound_pruned : (r : Repo) → IsSoundRepo r → IsSoundRepo (pruned r)
sound_pruned r s = subst (λ x. IsSoundRepo x) (unnamed_taken r) (sound_without_blobs (unnamed r) r s)
