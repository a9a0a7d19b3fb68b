-- In a sound world nothing is wrong, and where nothing is, all is whole.
use Rattle.std.proofs.Common.{◌≡◌, ◌≢◌, ◌∙◌, inl, inr, ℕ, List, [], ◌∷◌, ◌++◌, map, length, Bool, true, false, cond, Option, None, Some, Result, Ok, Err, IsOk, refl, sym, ap, subst}
use Rattle.std.specs.Prelude.{◌==◌, ◌&&◌, ◌||◌, is_some, option_map, filter}
use Rattle.std.specs.Option.{option_and_then, option_map_or}
use Rattle.std.specs.List.{filter_map, flat_map, cons_option, list_any}
use Rattle.std.specs.Ordering.{is_lt, eq_by_cmp}
use Rattle.std.specs.FinMap.{FinMap, get, keys, entries, contains_key-keys}
use Rattle.std.proofs.lemmas.Bool.{eq-eqb}
use Rattle.oci_types.specs.Text.{Text}
use Rattle.oci_types.specs.Digest.{is_verified, matches}
use Rattle.oci_types.proofs.Verdicts.{matches-cases}
use Rattle.oci_types.specs.declared.manifest_fault.ManifestFault.{ManifestFault}
use Rattle.oci_types.specs.Manifest.{ManifestShown, manifest_in}
use Rattle.registry_model.specs.declared.quota.Usage.{Usage}
use Rattle.registry_model.specs.World.{World, Repo, text_cmp, repo_at}
use Rattle.registry_model.specs.Usage.{usage_of}
use Rattle.registry_model.specs.Soundness.{IsSoundRepo, IsSound}
use Rattle.registry_model.specs.Manifests.{kind_in}
use Rattle.registry_model.specs.TagPage.{page_behind}
use Rattle.registry_model.specs.Lookups.{usages_of, no_page}
use Rattle.registry_model.proofs.TextOrder.{same_key}
use Rattle.registry_checking.specs.declared.wrong.Wrong.{Wrong}
use Rattle.registry_checking.specs.declared.wrong.Wrong.TheVariants.{Content}
use Rattle.registry_checking.specs.declared.wrong.Flaw.TheVariants.{OtherBytes, OtherSize}
use Rattle.registry_checking.specs.Wrongs.{is_of, wrong_bytes, wrong_blob, wrong_reading, first_wrong, wrong_manifest, untied, wrong_blob_at, wrong_manifest_at, wrong_tag_at, wrong_blobs_at, wrong_manifests_at, wrong_tags_at, wrongs_at, wrongs_of, IsWhole}

-- ---- lists of nothing

nothing_found : {A B : Type 0} (h : A → Option B) (xs : List A) → ((x : A) → h x ≡ None) → filter_map h xs ≡ []
nothing_found h [] none = refl
nothing_found h (x ∷ xs) none = ap (λ o. cons_option o (filter_map h xs)) (none x) ∙ nothing_found h xs none

nothing_at_all : {A B : Type 0} (f : A → List B) (xs : List A) → ((x : A) → f x ≡ []) → flat_map f xs ≡ []
nothing_at_all f [] none = refl
nothing_at_all f (x ∷ xs) none = ap (λ ys. ys ++ flat_map f xs) (none x) ∙ nothing_at_all f xs none

no_first : {B : Type 0} (o : Option B) (xs : List B) → cons_option o xs ≡ [] → o ≡ None
no_first None xs e = refl
no_first (Some x) xs e = absurd (cc)

no_others : {B : Type 0} (o : Option B) (xs : List B) → cons_option o xs ≡ [] → xs ≡ []
no_others None xs e = e
no_others (Some x) xs e = absurd (cc)

no_front : {B : Type 0} (xs ys : List B) → xs ++ ys ≡ [] → xs ≡ []
no_front [] ys e = refl
no_front (x ∷ xs) ys e = absurd (cc)

no_back : {B : Type 0} (xs ys : List B) → xs ++ ys ≡ [] → ys ≡ []
no_back [] ys e = e
no_back (x ∷ xs) ys e = absurd (cc)

-- nothing is found at a text that is among them
none_at : {B : Type 0} (h : Text → Option B) (xs : List Text) (q : Text) → filter_map h xs ≡ [] → list_any (eq_by_cmp text_cmp q) xs ≡ true → h q ≡ None
none_at h [] q none there = absurd (cc)
none_at h (x ∷ xs) q none there = by (none_at h xs q (no_others (h x) (filter_map h xs) none)) (eq_by_cmp text_cmp q x) refl there
  where
    by : (list_any (eq_by_cmp text_cmp q) xs ≡ true → h q ≡ None) → (b : Bool) → eq_by_cmp text_cmp q x ≡ b → (b || list_any (eq_by_cmp text_cmp q) xs) ≡ true → h q ≡ None
    by later true e t = ap h (same_key q x e) ∙ no_first (h x) (filter_map h xs) none
    by later false e t = later t

-- nor at one that is among the first parts of pairs
nothing_at : {A B : Type 0} (f : Text → List B) (us : List (Text × A)) (q : Text) → flat_map (λ u. f u.0) us ≡ [] → list_any (eq_by_cmp text_cmp q) (map (λ u. u.0) us) ≡ true → f q ≡ []
nothing_at f [] q none there = absurd (cc)
nothing_at {A = A} f (u ∷ us) q none there = by (nothing_at f us q (no_back (f u.0) (flat_map (λ (v : Text × A). f v.0) us) none)) (eq_by_cmp text_cmp q u.0) refl there
  where
    by : (list_any (eq_by_cmp text_cmp q) (map (λ (v : Text × A). v.0) us) ≡ true → f q ≡ []) → (b : Bool) → eq_by_cmp text_cmp q u.0 ≡ b
        → (b || list_any (eq_by_cmp text_cmp q) (map (λ (v : Text × A). v.0) us)) ≡ true → f q ≡ []
    by later true e t = ap f (same_key q u.0 e) ∙ no_front (f u.0) (flat_map (λ (v : Text × A). f v.0) us) none
    by later false e t = later t

-- ---- contents

verified : (digest bytes : Text) → matches digest bytes ≡ true → is_verified digest ≡ true
verified digest bytes h = elim (matches-cases digest bytes h) [
  | inl first ↦ ap is_verified first
  | inr second ↦ ap is_verified second
]

same_number : (n : ℕ) → (n == n) ≡ true
same_number n = eq-eqb n n refl

module _ (repo digest bytes : Text) where
  right_bytes : matches digest bytes ≡ true → wrong_bytes repo digest bytes (length bytes) ≡ None
  right_bytes h =
      ap (λ b. cond b (cond (is_of digest bytes) None (Some (Content repo digest OtherBytes))) (Some (Content repo digest OtherSize))) (same_number (length bytes))
      ∙ ap (λ b. cond (b && matches digest bytes) None (Some (Content repo digest OtherBytes))) (verified digest bytes h)
      ∙ ap (λ b. cond b None (Some (Content repo digest OtherBytes))) h

  are_right : wrong_bytes repo digest bytes (length bytes) ≡ None → matches digest bytes ≡ true
  are_right e = by (is_verified digest) (matches digest bytes) (sym (ap (λ b. cond b (cond (is_of digest bytes) None (Some (Content repo digest OtherBytes))) (Some (Content repo digest OtherSize))) (same_number (length bytes))) ∙ e)
    where
      by : (v m : Bool) → cond (v && m) None (Some (Content repo digest OtherBytes)) ≡ None → m ≡ true
      by true true e = refl
      by true false e = absurd (cc)
      by false m e = absurd (cc)

  right_reading : (r : Result ManifestShown ManifestFault) → IsOk r → wrong_reading repo digest r ≡ None
  right_reading (Ok m) is = refl
  right_reading (Err f) is = absurd (let bad : false ≡ true = is in cc)

  reads_right : (r : Result ManifestShown ManifestFault) → wrong_reading repo digest r ≡ None → IsOk r
  reads_right (Ok m) e = refl
  reads_right (Err f) e = absurd (cc)

no_first_wrong : (o p : Option Wrong) → first_wrong o p ≡ None → o ≡ None
no_first_wrong None p e = refl
no_first_wrong (Some x) p e = e

no_other_wrong : (o p : Option Wrong) → first_wrong o p ≡ None → p ≡ None
no_other_wrong None p e = e
no_other_wrong (Some x) p e = absurd (cc)

-- ---- a sound world

module _ (w : World) (s : IsSound w) (name : Text) where
  blob_right : (digest : Text) → wrong_blob_at w name digest ≡ None
  blob_right digest = by (repo_at w name) refl
    where
      found : (r : Repo) → IsSoundRepo r → (o : Option Text) → get r.blobs digest ≡ o → wrong_blob name digest o (option_map length o) ≡ None
      found r is None e = refl
      found r is (Some bytes) e = right_bytes name digest bytes (is.blobs digest bytes e)

      by : (o : Option Repo) → repo_at w name ≡ o
          → wrong_blob name digest (option_and_then (λ (r : Repo). get r.blobs digest) o) (option_map length (option_and_then (λ (r : Repo). get r.blobs digest) o)) ≡ None
      by None e = refl
      by (Some r) e = found r (s.repos name r e) (get r.blobs digest) refl

  manifest_right : (digest : Text) → wrong_manifest_at w name digest ≡ None
  manifest_right digest = by (repo_at w name) refl
    where
      found : (r : Repo) → IsSoundRepo r → (o : Option Text) → get r.manifests digest ≡ o
          → wrong_manifest name digest (option_map (λ bytes. (kind_in bytes, bytes)) o) (option_map (λ bytes. (kind_in bytes, length bytes)) o) ≡ None
      found r is None e = refl
      found r is (Some bytes) e =
          ap (λ o. first_wrong o (wrong_reading name digest (manifest_in bytes))) (right_bytes name digest bytes (is.manifests digest bytes e))
          ∙ right_reading name digest bytes (manifest_in bytes) (is.reads digest bytes e)

      by : (o : Option Repo) → repo_at w name ≡ o
          → wrong_manifest name digest (option_map (λ bytes. (kind_in bytes, bytes)) (option_and_then (λ (r : Repo). get r.manifests digest) o)) (option_map (λ bytes. (kind_in bytes, length bytes)) (option_and_then (λ (r : Repo). get r.manifests digest) o)) ≡ None
      by None e = refl
      by (Some r) e = found r (s.repos name r e) (get r.manifests digest) refl

  tag_right : (tag : Text) → wrong_tag_at w name tag ≡ None
  tag_right tag = by (repo_at w name) refl
    where
      tied : (o : Option Text) → is_some o ≡ true → untied name tag (option_map (λ bytes. (kind_in bytes, length bytes)) o) ≡ None
      tied None h = absurd (cc)
      tied (Some bytes) h = refl

      found : (r : Repo) → IsSoundRepo r → (o : Option Text) → get r.tags tag ≡ o
          → option_and_then (λ digest. untied name tag (option_map (λ bytes. (kind_in bytes, length bytes)) (get r.manifests digest))) o ≡ None
      found r is None e = refl
      found r is (Some digest) e = tied (get r.manifests digest) (is.tags tag digest e)

      by : (o : Option Repo) → repo_at w name ≡ o
          → option_and_then (λ digest. untied name tag (option_map (λ bytes. (kind_in bytes, length bytes)) (option_and_then (λ (r : Repo). get r.manifests digest) o))) (option_and_then (λ (r : Repo). get r.tags tag) o) ≡ None
      by None e = refl
      by (Some r) e = found r (s.repos name r e) (get r.tags tag) refl

  all_right : wrongs_at w name ≡ []
  all_right =
      ap (λ xs. xs ++ wrong_manifests_at w name ++ wrong_tags_at w name) (nothing_found (wrong_blob_at w name) _ blob_right)
      ∙ ap (λ xs. xs ++ wrong_tags_at w name) (nothing_found (wrong_manifest_at w name) _ manifest_right)
      ∙ nothing_found (wrong_tag_at w name) _ tag_right

pub nothing_wrong : (w : World) → IsSound w → wrongs_of w ≡ []
nothing_wrong w s = nothing_at_all (λ (u : Text × Usage). wrongs_at w u.0) (usages_of w) (λ u. all_right w s u.0)

-- ---- where nothing is wrong

names_of_usages : (es : List (Text × Repo)) → map (λ (u : Text × Usage). u.0) (map (λ e. (e.0, usage_of e.1)) es) ≡ map (λ e. e.0) es
names_of_usages [] = refl
names_of_usages (e ∷ es) = ap (λ (t : List Text). e.0 ∷ t) (names_of_usages es)

-- what is among texts, and passes a test, is among those that pass it
kept : (p : Text → Bool) (xs : List Text) (q : Text) → p q ≡ true → list_any (eq_by_cmp text_cmp q) xs ≡ true → list_any (eq_by_cmp text_cmp q) (filter p xs) ≡ true
kept p [] q passes there = there
kept p (x ∷ xs) q passes there = by (kept p xs q passes) (eq_by_cmp text_cmp q x) (p x) refl refl there
  where
    right : (b : Bool) → (b || true) ≡ true
    right true = refl
    right false = refl

    by : (list_any (eq_by_cmp text_cmp q) xs ≡ true → list_any (eq_by_cmp text_cmp q) (filter p xs) ≡ true) → (b c : Bool) → eq_by_cmp text_cmp q x ≡ b → p x ≡ c
        → (b || list_any (eq_by_cmp text_cmp q) xs) ≡ true → list_any (eq_by_cmp text_cmp q) (cond c (x ∷ filter p xs) (filter p xs)) ≡ true
    by later true true e f t = ap (λ b. b || list_any (eq_by_cmp text_cmp q) (filter p xs)) e
    by later true false e f t = absurd (let bad : true ≡ false = sym passes ∙ ap p (same_key q x e) ∙ f in cc)
    by later false true e f t = ap (λ b. eq_by_cmp text_cmp q x || b) (later t) ∙ right (eq_by_cmp text_cmp q x)
    by later false false e f t = later t

behind_nothing : (tag : Text) → tag ≢ [] → is_lt (text_cmp [] tag) ≡ true
behind_nothing [] some = absurd (some refl)
behind_nothing (b ∷ t) some = refl

module _ (w : World) (none : wrongs_of w ≡ []) (name : Text) (r : Repo) (is : repo_at w name ≡ Some r) where
  here : wrongs_at w name ≡ []
  here = nothing_at (wrongs_at w) (usages_of w) name none
      (ap (list_any (eq_by_cmp text_cmp name)) (names_of_usages (entries w.repos)) ∙ sym (contains_key-keys w.repos name) ∙ ap is_some is)

  both : wrong_blobs_at w name ++ wrong_manifests_at w name ≡ []
  both = no_front (wrong_blobs_at w name ++ wrong_manifests_at w name) (wrong_tags_at w name) here

  no_blobs : filter_map (λ d. wrong_blob name d (get r.blobs d) (option_map length (get r.blobs d))) (keys r.blobs) ≡ []
  no_blobs = subst (λ o. filter_map (λ d. wrong_blob name d (option_and_then (λ (r : Repo). get r.blobs d) o) (option_map length (option_and_then (λ (r : Repo). get r.blobs d) o))) (option_map_or (λ (r : Repo). keys r.blobs) o []) ≡ [])
      is (no_front (wrong_blobs_at w name) (wrong_manifests_at w name) both)

  abbrev manifest_wrong : Text → Option Text → Option Wrong
  manifest_wrong d o = wrong_manifest name d (option_map (λ bytes. (kind_in bytes, bytes)) o) (option_map (λ bytes. (kind_in bytes, length bytes)) o)

  no_manifests : filter_map (λ d. manifest_wrong d (get r.manifests d)) (keys r.manifests) ≡ []
  no_manifests = subst (λ o. filter_map (λ d. manifest_wrong d (option_and_then (λ (r : Repo). get r.manifests d) o)) (option_map_or (λ (r : Repo). keys r.manifests) o []) ≡ [])
      is (no_back (wrong_blobs_at w name) (wrong_manifests_at w name) both)

  abbrev tag_wrong : Text → Option Text → Option Wrong
  tag_wrong tag o = option_and_then (λ digest. untied name tag (option_map (λ bytes. (kind_in bytes, length bytes)) (get r.manifests digest))) o

  no_tags : filter_map (λ tag. tag_wrong tag (get r.tags tag)) (filter (λ tag. is_lt (text_cmp [] tag)) (keys r.tags)) ≡ []
  no_tags = subst (λ o. filter_map (λ tag. option_and_then (λ digest. untied name tag (option_map (λ bytes. (kind_in bytes, length bytes)) (option_and_then (λ (r : Repo). get r.manifests digest) o))) (option_and_then (λ (r : Repo). get r.tags tag) o)) (option_map_or (λ r. page_behind r [] None) o no_page).tags ≡ [])
      is (no_back (wrong_blobs_at w name ++ wrong_manifests_at w name) (wrong_tags_at w name) here)

  among : (m : FinMap text_cmp Text) (key value : Text) → get m key ≡ Some value → list_any (eq_by_cmp text_cmp key) (keys m) ≡ true
  among m key value e = sym (contains_key-keys m key) ∙ ap is_some e

  manifest_found : (digest bytes : Text) → get r.manifests digest ≡ Some bytes → first_wrong (wrong_bytes name digest bytes (length bytes)) (wrong_reading name digest (manifest_in bytes)) ≡ None
  manifest_found digest bytes e = subst (λ o. manifest_wrong digest o ≡ None) e (none_at (λ d. manifest_wrong d (get r.manifests d)) (keys r.manifests) digest no_manifests (among r.manifests digest bytes e))

  tied_to : (tag : Text) (o : Option Text) → untied name tag (option_map (λ bytes. (kind_in bytes, length bytes)) o) ≡ None → is_some o ≡ true
  tied_to tag None e = absurd (cc)
  tied_to tag (Some bytes) e = refl

  pub is_whole : IsWhole r
  is_whole = record {
    blobs = λ digest bytes e. are_right name digest bytes (subst (λ o. wrong_blob name digest o (option_map length o) ≡ None) e
        (none_at (λ d. wrong_blob name d (get r.blobs d) (option_map length (get r.blobs d))) (keys r.blobs) digest no_blobs (among r.blobs digest bytes e)));
    manifests = λ digest bytes e. are_right name digest bytes (no_first_wrong _ (wrong_reading name digest (manifest_in bytes)) (manifest_found digest bytes e));
    reads = λ digest bytes e. reads_right name digest bytes (manifest_in bytes) (no_other_wrong (wrong_bytes name digest bytes (length bytes)) _ (manifest_found digest bytes e));
    tags = λ tag digest some e. tied_to tag (get r.manifests digest) (subst (λ o. tag_wrong tag o ≡ None) e
        (none_at (λ t. tag_wrong t (get r.tags t)) (filter (λ t. is_lt (text_cmp [] t)) (keys r.tags)) tag no_tags
        (kept (λ t. is_lt (text_cmp [] t)) (keys r.tags) tag (behind_nothing tag some) (among r.tags tag digest e))));
  }
