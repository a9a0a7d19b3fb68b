-- Changes of a repository that keep it sound.
use Rattle.std.proofs.Common.{◌≡◌, ◌≢◌, ◌∙◌, inl, inr, ℕ, ◌+◌, ◌-◌, ◌≤◌, ◌<◌, [], length, Bool, true, false, cond, not, ◌&&◌, ◌||◌, nat_lt, nat_le, Option, Some, None, refl, sym, ap, subst, arith}
use Rattle.std.specs.Prelude.{is_some, bytes_eq, IsOk}
use Rattle.std.specs.Ordering.{nat_cmp}
use Rattle.std.specs.Cmp.{nat_cmp_total}
use Rattle.std.specs.FinMap.{get, insert, remove, empty, len, contains_key, get-empty, get-retain_keys, len-empty, len-insert, len-remove, nat_cmp-IsAntisymmetric}
use Rattle.std.proofs.lemmas.Bool.Decides.{nat_tests}
use Rattle.oci_types.specs.Text.{Text}
use Rattle.oci_types.specs.Digest.{matches}
use Rattle.oci_types.specs.Manifest.{manifest_in}
use Rattle.registry_model.specs.World.{text_cmp, Repo, new_repo}
use Rattle.registry_model.specs.Limits.{largest, largest_blob, most_sessions}
use Rattle.registry_model.specs.Usage.{used, is_over}
use Rattle.registry_model.specs.Soundness.{IsSoundRepo}
use Rattle.registry_model.specs.Blobs.{with_blob, without_blob}
use Rattle.registry_model.specs.Sessions.{is_full, opened, appended}
use Rattle.registry_model.specs.Manifests.{is_text, without_tag, without_manifest, with_bytes, with_tag}
use Rattle.registry_model.specs.Command.{without_sessions}
use Rattle.registry_model.proofs.TextOrder.{text_total, exact_texts}
use Rattle.registry_model.proofs.ChangedMaps.{bytes_eq-itself, not_Some, got_insert, stays_there, is_put, got_remove, left_there, sum_of_none, sum_after_insert, sum_after_remove}

-- what is not over a quota fits where the quota and the former size do
pub fits : (m before after quota : ℕ) → is_over before after quota ≡ false → before ≤ m → quota ≤ m → after ≤ m
fits m before after quota e b q = by (nat_lt before after) (nat_lt quota after) refl refl e
  where
    by : (s t : Bool) → nat_lt before after ≡ s → nat_lt quota after ≡ t → (s && t) ≡ false → after ≤ m
    by true true k l h = absurd (cc)
    by true false k l h = grind (arith, nat_tests)
    by false t k l h = grind (arith, nat_tests)

matches_at : (d digest x bytes : Text) → d ≡ digest → bytes ≡ x → matches digest bytes ≡ true → matches d x ≡ true
matches_at d digest x bytes p q ok = (λ i. matches (p i) (sym q i)) ∙ ok

-- ---- a whole new repository

no_key : {X : Type 0} (k : Text) (x : X) → get (empty {R = text_cmp}) k ≡ Some x → ⊥
no_key k x e = not_Some x (sym (get-empty text_cmp k) ∙ e)

no_number : (k : ℕ) (x : Text) → get (empty {R = nat_cmp}) k ≡ Some x → ⊥
no_number k x e = not_Some x (sym (get-empty nat_cmp k) ∙ e)

pub sound_new : (quota : ℕ) → quota ≤ largest → IsSoundRepo (new_repo quota)
sound_new quota q = record {
  tags = λ tag digest e. absurd (no_key tag digest e);
  blobs = λ digest bytes e. absurd (no_key digest bytes e);
  manifests = λ digest bytes e. absurd (no_key digest bytes e);
  reads = λ digest bytes e. absurd (no_key digest bytes e);
  numbers = λ number bytes e. absurd (no_number number bytes e);
  open_sessions = omega (arith, len-empty nat_cmp Text);
  used_fits = omega (arith, sum_of_none {K = Text} (length {A = ℕ}) text_cmp, sum_of_none {K = ℕ} (length {A = ℕ}) nat_cmp);
  last_fits = omega arith;
  quota_fits = q;
}

module _ (r : Repo) (s : IsSoundRepo r) where
  pub sound_quota : (quota : ℕ) → quota ≤ largest → IsSoundRepo (record r { quota = quota })
  sound_quota quota q = record {
    tags = s.tags;
    blobs = s.blobs;
    manifests = s.manifests;
    reads = s.reads;
    numbers = s.numbers;
    open_sessions = s.open_sessions;
    used_fits = s.used_fits;
    last_fits = s.last_fits;
    quota_fits = q;
  }

  -- ---- blobs

  pub sound_with_blob : (digest bytes : Text) → matches digest bytes ≡ true → used (with_blob r digest bytes) ≤ largest → IsSoundRepo (with_blob r digest bytes)
  sound_with_blob digest bytes ok u = by (is_some (get r.blobs digest)) u
    where
      by : (b : Bool) → used (cond b r (record r { blobs = insert r.blobs digest bytes })) ≤ largest → IsSoundRepo (cond b r (record r { blobs = insert r.blobs digest bytes }))
      by true h = s
      by false h = record {
        tags = s.tags;
        blobs = λ d x e. elim (got_insert text_total exact_texts r.blobs digest bytes d x e) as (λ _. matches d x ≡ true) [
          | inl p ↦ matches_at d digest x bytes p.0 p.1 ok
          | inr p ↦ s.blobs d x p
        ];
        manifests = s.manifests;
        reads = s.reads;
        numbers = s.numbers;
        open_sessions = s.open_sessions;
        used_fits = h;
        last_fits = s.last_fits;
        quota_fits = s.quota_fits;
      }

  pub sound_without_blob : (digest : Text) → IsSoundRepo (without_blob r digest)
  sound_without_blob digest = record {
    tags = s.tags;
    blobs = λ d x e. s.blobs d x (got_remove text_total exact_texts r.blobs digest d x e).0;
    manifests = s.manifests;
    reads = s.reads;
    numbers = s.numbers;
    open_sessions = s.open_sessions;
    used_fits = omega (arith, sum_after_remove text_total (length {A = ℕ}) r.blobs digest exact_texts, s.used_fits);
    last_fits = s.last_fits;
    quota_fits = s.quota_fits;
  }

  -- ---- sessions

  -- a session's new bytes, its number being at most the last
  sound_session : (n last : ℕ) (bytes : Text) → 1 ≤ n → n ≤ last → r.last ≤ last → last ≤ largest → length bytes ≤ largest_blob
      → len (insert r.sessions n bytes) ≤ most_sessions → used (record r { sessions = insert r.sessions n bytes; last = last }) ≤ largest
      → IsSoundRepo (record r { sessions = insert r.sessions n bytes; last = last })
  sound_session n last bytes low high grows fit size number u = record {
    tags = s.tags;
    blobs = s.blobs;
    manifests = s.manifests;
    reads = s.reads;
    numbers = λ k x e. elim (got_insert nat_cmp_total nat_cmp-IsAntisymmetric r.sessions n bytes k x e) as (λ _. (1 ≤ k) × (k ≤ last) × (length x ≤ largest_blob)) [
      | inl p ↦ (omega (arith, p.0, low), omega (arith, p.0, high), subst (λ y. length y ≤ largest_blob) p.1 size)
      | inr p ↦ let old = s.numbers k x p in (old.0, omega (arith, old.1, grows), old.2)
    ];
    open_sessions = number;
    used_fits = u;
    last_fits = fit;
    quota_fits = s.quota_fits;
  }

  not_full : is_full r ≡ false → (len r.sessions < most_sessions) × (r.last < largest)
  not_full e = by (nat_le most_sessions (len r.sessions)) (nat_le largest r.last) refl refl e
    where
      by : (a b : Bool) → nat_le most_sessions (len r.sessions) ≡ a → nat_le largest r.last ≡ b → (a || b) ≡ false → (len r.sessions < most_sessions) × (r.last < largest)
      by true b k l h = absurd (cc)
      by false true k l h = absurd (cc)
      by false false k l h = (grind (arith, nat_tests), grind (arith, nat_tests))

  len_put : (n : ℕ) (bytes : Text) → len (insert r.sessions n bytes) ≤ len r.sessions + 1
  len_put n bytes = subst (λ k. k ≤ len r.sessions + 1) (sym (len-insert nat_cmp_total r.sessions n bytes)) (by (contains_key r.sessions n))
    where
      by : (b : Bool) → cond b (len r.sessions) (len r.sessions + 1) ≤ len r.sessions + 1
      by true = omega arith
      by false = omega arith

  pub sound_opened : is_full r ≡ false → IsSoundRepo (opened r)
  sound_opened e =
      let room = not_full e in
      sound_session (r.last + 1) (r.last + 1) [] (omega arith) (omega arith) (omega arith) (omega (arith, room.1)) (omega arith)
      (omega (arith, room.0, len_put (r.last + 1) []))
      (omega (arith, sum_after_insert nat_cmp_total (length {A = ℕ}) r.sessions (r.last + 1) [], s.used_fits))

  pub sound_appended : (n : ℕ) (old bytes : Text) → get r.sessions n ≡ Some old → length bytes ≤ largest_blob → used (appended r n bytes) ≤ largest → IsSoundRepo (appended r n bytes)
  sound_appended n old bytes there size u =
      let was = s.numbers n old there in
      let number : len (insert r.sessions n bytes) ≡ len r.sessions = len-insert nat_cmp_total r.sessions n bytes ∙ ap (λ o. cond (is_some o) (len r.sessions) (len r.sessions + 1)) there in
      sound_session n r.last bytes was.0 was.1 (omega arith) s.last_fits size (subst (λ k. k ≤ most_sessions) (sym number) s.open_sessions) u

  len_left : (n : ℕ) → len (remove r.sessions n) ≤ len r.sessions
  len_left n = subst (λ k. k ≤ len r.sessions) (sym (len-remove nat_cmp_total r.sessions n)) (by (contains_key r.sessions n))
    where
      by : (b : Bool) → cond b (len r.sessions - 1) (len r.sessions) ≤ len r.sessions
      by true = omega arith
      by false = omega arith

  pub sound_without_session : (n : ℕ) → IsSoundRepo (record r { sessions = remove r.sessions n })
  sound_without_session n = record {
    tags = s.tags;
    blobs = s.blobs;
    manifests = s.manifests;
    reads = s.reads;
    numbers = λ k x e. s.numbers k x (got_remove nat_cmp_total nat_cmp-IsAntisymmetric r.sessions n k x e).0;
    open_sessions = omega (arith, len_left n, s.open_sessions);
    used_fits = omega (arith, sum_after_remove nat_cmp_total (length {A = ℕ}) r.sessions n nat_cmp-IsAntisymmetric, s.used_fits);
    last_fits = s.last_fits;
    quota_fits = s.quota_fits;
  }

  pub sound_without_sessions : IsSoundRepo (without_sessions r)
  sound_without_sessions = record {
    tags = s.tags;
    blobs = s.blobs;
    manifests = s.manifests;
    reads = s.reads;
    numbers = λ number bytes e. absurd (no_number number bytes e);
    open_sessions = omega (arith, len-empty nat_cmp Text);
    used_fits = omega (arith, sum_of_none {K = ℕ} (length {A = ℕ}) nat_cmp, s.used_fits);
    last_fits = s.last_fits;
    quota_fits = s.quota_fits;
  }

  -- ---- manifests

  pub sound_with_bytes : (digest bytes : Text) → matches digest bytes ≡ true → IsOk (manifest_in bytes) → used (with_bytes r digest bytes) ≤ largest
      → IsSoundRepo (with_bytes r digest bytes)
  sound_with_bytes digest bytes ok reads u = by (is_some (get r.manifests digest)) u
    where
      by : (b : Bool) → used (cond b r (record r { manifests = insert r.manifests digest bytes })) ≤ largest → IsSoundRepo (cond b r (record r { manifests = insert r.manifests digest bytes }))
      by true h = s
      by false h = record {
        tags = λ tag d e. stays_there text_total exact_texts r.manifests digest bytes d (s.tags tag d e);
        blobs = s.blobs;
        manifests = λ d x e. elim (got_insert text_total exact_texts r.manifests digest bytes d x e) as (λ _. matches d x ≡ true) [
          | inl p ↦ matches_at d digest x bytes p.0 p.1 ok
          | inr p ↦ s.manifests d x p
        ];
        reads = λ d x e. elim (got_insert text_total exact_texts r.manifests digest bytes d x e) as (λ _. IsOk (manifest_in x)) [
          | inl p ↦ subst (λ y. IsOk (manifest_in y)) p.1 reads
          | inr p ↦ s.reads d x p
        ];
        numbers = s.numbers;
        open_sessions = s.open_sessions;
        used_fits = h;
        last_fits = s.last_fits;
        quota_fits = s.quota_fits;
      }

  pub sound_with_tag : (tag : Option Text) (digest : Text) → is_some (get r.manifests digest) ≡ true → IsSoundRepo (with_tag r tag digest)
  sound_with_tag None digest there = s
  sound_with_tag (Some tag) digest there = record {
    tags = λ t d e. elim (got_insert text_total exact_texts r.tags tag digest t d e) as (λ _. is_some (get r.manifests d) ≡ true) [
      | inl p ↦ subst (λ x. is_some (get r.manifests x) ≡ true) p.1 there
      | inr p ↦ s.tags t d p
    ];
    blobs = s.blobs;
    manifests = s.manifests;
    reads = s.reads;
    numbers = s.numbers;
    open_sessions = s.open_sessions;
    used_fits = s.used_fits;
    last_fits = s.last_fits;
    quota_fits = s.quota_fits;
  }

  pub sound_without_tag : (tag : Text) → IsSoundRepo (without_tag r tag)
  sound_without_tag tag = record {
    tags = λ t d e. s.tags t d (got_remove text_total exact_texts r.tags tag t d e).0;
    blobs = s.blobs;
    manifests = s.manifests;
    reads = s.reads;
    numbers = s.numbers;
    open_sessions = s.open_sessions;
    used_fits = s.used_fits;
    last_fits = s.last_fits;
    quota_fits = s.quota_fits;
  }

  -- a tag that stays names another manifest
  kept_tag : (digest tag d : Text) → get (without_manifest r digest).tags tag ≡ Some d → (get r.tags tag ≡ Some d) × (d ≢ digest)
  kept_tag digest tag d e = by (not (is_text digest (get r.tags tag))) refl (sym left ∙ e)
    where
      left : get (without_manifest r digest).tags tag ≡ cond (not (is_text digest (get r.tags tag))) (get r.tags tag) None
      left = get-retain_keys r.tags (λ t. not (is_text digest (get r.tags t))) tag (λ x k. ap (λ t. not (is_text digest (get r.tags t))) (sym (exact_texts tag x k)))

      by : (b : Bool) → not (is_text digest (get r.tags tag)) ≡ b → cond b (get r.tags tag) None ≡ Some d → (get r.tags tag ≡ Some d) × (d ≢ digest)
      by true t h = (
        h,
        λ p.
            let bad : false ≡ true = sym (ap not (bytes_eq-itself digest)) ∙ ap (λ z. not (bytes_eq z digest)) (sym p) ∙ ap (λ o. not (is_text digest o)) (sym h) ∙ t in absurd (cc),
      )
      by false t h = absurd (not_Some d h)

  kept_there : (digest tag d : Text) → (get r.tags tag ≡ Some d) × (d ≢ digest) → is_some (get (without_manifest r digest).manifests d) ≡ true
  kept_there digest tag d k = left_there text_total exact_texts r.manifests digest d (s.tags tag d k.0) k.1

  pub sound_without_manifest : (digest : Text) → IsSoundRepo (without_manifest r digest)
  sound_without_manifest digest = record {
    tags = λ t d e. kept_there digest t d (kept_tag digest t d e);
    blobs = s.blobs;
    manifests = λ d x e. s.manifests d x (got_remove text_total exact_texts r.manifests digest d x e).0;
    reads = λ d x e. s.reads d x (got_remove text_total exact_texts r.manifests digest d x e).0;
    numbers = s.numbers;
    open_sessions = s.open_sessions;
    used_fits = omega (arith, sum_after_remove text_total (length {A = ℕ}) r.manifests digest exact_texts, s.used_fits);
    last_fits = s.last_fits;
    quota_fits = s.quota_fits;
  }

-- the manifest that was pushed is there
pub with_bytes_there : (r : Repo) (digest bytes : Text) → is_some (get (with_bytes r digest bytes).manifests digest) ≡ true
with_bytes_there r digest bytes = by (is_some (get r.manifests digest)) refl
  where
    by : (b : Bool) → is_some (get r.manifests digest) ≡ b → is_some (get (cond b r (record r { manifests = insert r.manifests digest bytes })).manifests digest) ≡ true
    by true e = e
    by false e = is_put text_total exact_texts r.manifests digest bytes

-- a tag uses no bytes
pub used_with_tag : (r : Repo) (tag : Option Text) (digest : Text) → used (with_tag r tag digest) ≡ used r
used_with_tag r None digest = refl
used_with_tag r (Some tag) digest = refl
