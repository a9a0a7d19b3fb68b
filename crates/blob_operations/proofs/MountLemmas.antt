-- Mounting a blob into a repository that is there.
use Rattle.std.proofs.Common.{◌≡◌, ◌∙◌, ℕ, length, Bool, true, false, cond, not, ◌&&◌, None, Some, refl, sym, ap}
use Rattle.std.specs.Prelude.{Option, option_map, is_some, nat_lt}
use Rattle.std.specs.Option.{option_and_then, option_map_or}
use Rattle.std.specs.FinMap.{get}
use Rattle.std.proofs.lemmas.Option.{same_Some}
use Rattle.oci_types.specs.Text.{Text}
use Rattle.oci_types.specs.Digest.{is_digest}
use Rattle.oci_types.specs.RepoName.{is_repo_name}
use Rattle.registry_model.specs.declared.refusal.Refusal.TheVariants.{InvalidDigest, QuotaExceeded}
use Rattle.registry_model.specs.World.{Repo, World, repo_at}
use Rattle.registry_model.specs.Decision.{refuses, makes}
use Rattle.registry_model.specs.Blobs.{created_blob, with_blob}
use Rattle.registry_model.specs.Sessions.{open_session}
use Rattle.registry_model.specs.Mount.{source, mounted, mount_blob}
use Rattle.registry_model.specs.Lookups.{blob_at, blob_size_at, with_mounted}
use Rattle.operation_parts.specs.Quota.{grows_over, new_length, blob_grows_over}
use Rattle.blob_operations.specs.Mounting.{source_at}
use Rattle.blob_operations.specs.declared.mounting.Source.{Source}
use Rattle.operation_parts.proofs.QuotaLemmas.{push_over}

-- ---- the mount

pub sized : (o : Option Text) (size : ℕ) → option_map length o ≡ Some size → (bytes : Text) × (o ≡ Some bytes) × (length bytes ≡ size)
sized None size e = absurd (cc)
sized (Some bytes) size e = (bytes, refl, same_Some (length bytes) size e)

module _ (w : World) (name from digest : Text) (size : ℕ) (r : Repo) (at : repo_at w name ≡ Some r) (there : blob_size_at w from digest ≡ Some size) where
  mounts : (bytes : Text) → blob_at w from digest ≡ Some bytes → mounted r name digest (blob_at w from digest)
      ≡ cond (grows_over r (new_length (get r.blobs digest) (length bytes)) 0) (refuses QuotaExceeded) (makes (created_blob name digest) (with_mounted digest (blob_at w from digest) r))
  mounts bytes is =
      ap (mounted r name digest) is
      ∙ ap (λ b. cond b (refuses QuotaExceeded) (makes (created_blob name digest) (with_blob r digest bytes))) (push_over r digest bytes)
      ∙ ap (λ o. cond (grows_over r (new_length (get r.blobs digest) (length bytes)) 0) (refuses QuotaExceeded) (makes (created_blob name digest) (with_mounted digest o r))) (sym is)

  over : (bytes : Text) → length bytes ≡ size → (b : Bool) → b ≡ blob_grows_over w name digest size 0 → grows_over r (new_length (get r.blobs digest) (length bytes)) 0 ≡ b
  over bytes long b e =
      ap (λ n. grows_over r (new_length (get r.blobs digest) n) 0) long
      ∙ sym (e ∙ ap (λ o. option_map_or (λ r. grows_over r (new_length (option_and_then (λ r. get r.blobs digest) o) size) 0) o (nat_lt 0 (new_length (option_and_then (λ r. get r.blobs digest) o) size))) at)

  pub mount_refused : (b : Bool) → b ≡ blob_grows_over w name digest size 0 → b ≡ true → mounted r name digest (blob_at w from digest) ≡ refuses QuotaExceeded
  mount_refused b e t =
      let h = sized (blob_at w from digest) size there in
      mounts h.0 h.1 ∙ ap (λ x. cond x (refuses QuotaExceeded) (makes (created_blob name digest) (with_mounted digest (blob_at w from digest) r))) (over h.0 h.2 b e ∙ t)

  pub mount_taken : (b : Bool) → b ≡ blob_grows_over w name digest size 0 → b ≡ false
      → mounted r name digest (blob_at w from digest) ≡ makes (created_blob name digest) (with_mounted digest (blob_at w from digest) r)
  mount_taken b e t =
      let h = sized (blob_at w from digest) size there in
      mounts h.0 h.1 ∙ ap (λ x. cond x (refuses QuotaExceeded) (makes (created_blob name digest) (with_mounted digest (blob_at w from digest) r))) (over h.0 h.2 b e ∙ t)

-- ---- the request

none_shown : {A B : Type 0} (f : A → B) (o : Option A) → None ≡ option_map f o → o ≡ None
none_shown f None e = refl
none_shown f (Some a) e = absurd (cc)

valid_mount : (w : World) (r : Repo) (token name text : Text) (from : Option Text) → is_digest text ≡ true
    → mount_blob (w.grants token) (repo_at w) r name text from ≡ mounted r name text (source (w.grants token) (repo_at w) from text)
valid_mount w r token name text from valid =
    ap (λ b. cond (not b) (refuses InvalidDigest) (mounted r name text (source (w.grants token) (repo_at w) from text))) valid

pub invalid_mount : (w : World) (r : Repo) (token name text : Text) (from : Option Text) → is_digest text ≡ false
    → mount_blob (w.grants token) (repo_at w) r name text from ≡ refuses InvalidDigest
invalid_mount w r token name text from invalid =
    ap (λ b. cond (not b) (refuses InvalidDigest) (mounted r name text (source (w.grants token) (repo_at w) from text))) invalid

no_blob : (w : World) (token text : Text) (from : Option Text) → None ≡ source_at w token from text → source (w.grants token) (repo_at w) from text ≡ None
no_blob w token text None e = refl
no_blob w token text (Some name) e = none_shown {B = Source} (λ bytes. record { name = name; size = length bytes }) _ e

-- with no source an upload is opened
pub opens_instead : (w : World) (r : Repo) (token name digest text : Text) (from : Option Text) → digest ≡ text → is_digest text ≡ true → None ≡ source_at w token from digest
    → mount_blob (w.grants token) (repo_at w) r name text from ≡ open_session r name
opens_instead w r token name digest text from same valid e =
    valid_mount w r token name text from valid ∙ ap (mounted r name text) (no_blob w token text from (e ∙ ap (source_at w token from) same))

by_right : (w : World) (name digest : Text) (b : Bool) (u : Source) → Some u ≡ option_map (λ bytes. record { name = name; size = length bytes }) (cond b (blob_at w name digest) None)
    → (u.name ≡ name) × (cond b (blob_at w name digest) None ≡ blob_at w u.name digest) × (blob_size_at w u.name digest ≡ Some u.size)
by_right w name digest false u e = absurd (cc)
by_right w name digest true u e = by_bytes (blob_at w name digest) refl e
  where
    by_bytes : (o : Option Text) → blob_at w name digest ≡ o → Some u ≡ option_map (λ bytes. record { name = name; size = length bytes }) o
        → (u.name ≡ name) × (blob_at w name digest ≡ blob_at w u.name digest) × (blob_size_at w u.name digest ≡ Some u.size)
    by_bytes None is e = absurd (cc)
    by_bytes (Some bytes) is e =
        let same : u ≡ record { name = name; size = length bytes } = same_Some u (record { name = name; size = length bytes }) e in (
          ap (λ x. x.name) same,
          ap (λ x. blob_at w x.name digest) (sym same),
          ap (λ x. blob_size_at w x.name digest) same ∙ ap (option_map length) is ∙ ap (λ x. Some x.size) (sym same),
        )

sourced : (w : World) (token digest : Text) (from : Option Text) (u : Source) → Some u ≡ source_at w token from digest
    → (source (w.grants token) (repo_at w) from digest ≡ blob_at w u.name digest) × (blob_size_at w u.name digest ≡ Some u.size)
sourced w token digest None u e = absurd (cc)
sourced w token digest (Some name) u e =
    let h = by_right w name digest (is_repo_name name && is_some (get (w.grants token) name)) u e in (h.1, h.2)

-- a source has the blob
pub source_has : (w : World) (token digest : Text) (from : Option Text) (u : Source) → Some u ≡ source_at w token from digest → blob_size_at w u.name digest ≡ Some u.size
source_has w token digest from u e = (sourced w token digest from u e).1

-- with a source the blob is mounted
pub mounts_from : (w : World) (r : Repo) (token name digest text : Text) (from : Option Text) (u : Source) → digest ≡ text → is_digest text ≡ true → Some u ≡ source_at w token from digest
    → mount_blob (w.grants token) (repo_at w) r name text from ≡ mounted r name digest (blob_at w u.name digest)
mounts_from w r token name digest text from u same valid e =
    valid_mount w r token name text from valid
    ∙ ap (λ t. mounted r name t (source (w.grants token) (repo_at w) from t)) (sym same)
    ∙ ap (mounted r name digest) (sourced w token digest from u e).0
