-- Writes that leave each blob that is there, and what is then known of shared bytes.
use Rattle.std.proofs.Common.{◌≡◌, ◌∙◌, Bool, true, false, cond, None, Some, Ok, Err, refl, sym, ap, true≢false}
use Rattle.std.proofs.lemmas.Option.{same_Some}
use Rattle.std.specs.Prelude.{ℕ, Option, Result, is_some}
use Rattle.std.specs.Ordering.{eq_by_cmp}
use Rattle.std.specs.Option.{option_and_then}
use Rattle.std.specs.BTreeMap.{BTreeMap}
use Rattle.std.specs.FinMap.{get, insert, remove, get-insert}
use Rattle.oci_types.specs.Text.{Text}
use Rattle.oci_types.specs.declared.fault.Fault.{Fault}
use Rattle.oci_types.specs.declared.fault.Fault.TheVariants.{Memory, Storage}
use Rattle.registry_model.specs.declared.level.Level.{Level}
use Rattle.registry_model.specs.World.{Repo, World, Grants, text_cmp, repo_at, with_repo, with_grants, update_repo}
use Rattle.registry_model.specs.Blobs.{with_blob}
use Rattle.registry_model.specs.Sessions.{finished}
use Rattle.registry_model.specs.Manifests.{with_bytes, with_tag, with_manifest}
use Rattle.registry_model.specs.Command.{with_quota, set_repo}
use Rattle.registry_model.specs.Lookups.{blob_at, mount, with_mounted}
use Rattle.registry_model.specs.Keeping.{Kept, ReadsBy, ReadsSo, Writes, WritesBy, Spends}
use Rattle.registry_model.specs.Closing.{WritesWhereSo}
use Rattle.registry_model.proofs.TextOrder.{text_total, same_key}
use Rattle.registry_holding.specs.Sharing.{Bytes, AreBlobsOf, AreShared}

-- each blob that is there in the one is there in the other
abbrev pub BlobsStay : World → World → Type 0
BlobsStay w v = (name digest bytes : Text) → blob_at w name digest ≡ Some bytes → blob_at v name digest ≡ Some bytes

abbrev pub Stay : Repo → Repo → Type 0
Stay r s = (digest bytes : Text) → get r.blobs digest ≡ Some bytes → get s.blobs digest ≡ Some bytes

-- ---- of one repository

pub blob_added : (r : Repo) (key bytes : Text) → Stay r (with_blob r key bytes)
blob_added r key bytes digest there at = by (is_some (get r.blobs key)) refl
  where
    beside : is_some (get r.blobs key) ≡ false → (b : Bool) → eq_by_cmp text_cmp digest key ≡ b → cond b (Some bytes) (get r.blobs digest) ≡ Some there
    beside none true e = absurd (true≢false (sym (ap (λ k. is_some (get r.blobs k)) (sym (same_key digest key e)) ∙ ap is_some at) ∙ none))
    beside none false e = at

    by : (b : Bool) → is_some (get r.blobs key) ≡ b → get (cond b r (record r { blobs = insert r.blobs key bytes })).blobs digest ≡ Some there
    by true e = at
    by false e = get-insert text_total r.blobs key bytes digest ∙ beside e (eq_by_cmp text_cmp digest key) refl

pub blob_finished : (r : Repo) (number : ℕ) (key bytes : Text) → Stay r (finished r number key bytes)
blob_finished r number key bytes = blob_added (record r { sessions = remove r.sessions number }) key bytes

pub blob_mounted : (r : Repo) (key : Text) (bytes : Option Text) → Stay r (with_mounted key bytes r)
blob_mounted r key None = λ digest there at. at
blob_mounted r key (Some bytes) = blob_added r key bytes

pub manifest_added : (r : Repo) (key bytes : Text) (tag : Option Text) → Stay r (with_manifest r key bytes tag)
manifest_added r key bytes tag digest there at = tagged tag (with_bytes r key bytes) (by (is_some (get r.manifests key)))
  where
    by : (b : Bool) → get (cond b r (record r { manifests = insert r.manifests key bytes })).blobs digest ≡ Some there
    by true = at
    by false = at

    tagged : (tag : Option Text) (s : Repo) → get s.blobs digest ≡ Some there → get (with_tag s tag key).blobs digest ≡ Some there
    tagged None s at = at
    tagged (Some tag) s at = at

-- ---- of all

module _ (w : World) (name : Text) where
  repo_put : (s : Repo) (o : Option Repo) → repo_at w name ≡ o → ((r : Repo) → o ≡ Some r → Stay r s) → BlobsStay w (with_repo w name s)
  repo_put s o is stays q digest bytes at = ap (option_and_then (λ r. get r.blobs digest)) (get-insert text_total w.repos name s q) ∙ by (eq_by_cmp text_cmp q name) refl
    where
      there : (o : Option Repo) → ((r : Repo) → o ≡ Some r → Stay r s) → option_and_then (λ r. get r.blobs digest) o ≡ Some bytes → get s.blobs digest ≡ Some bytes
      there None stays at = cc
      there (Some r) stays at = stays r refl digest bytes at

      by : (b : Bool) → eq_by_cmp text_cmp q name ≡ b → option_and_then (λ r. get r.blobs digest) (cond b (Some s) (get w.repos q)) ≡ Some bytes
      by true e = there o stays (ap (option_and_then (λ r. get r.blobs digest)) (sym is ∙ ap (get w.repos) (sym (same_key q name e))) ∙ at)
      by false e = at

  pub repo_updated : (f : Repo → Repo) → ((r : Repo) → Stay r (f r)) → BlobsStay w (update_repo w name f (repo_at w name))
  repo_updated f stays = by (repo_at w name) refl
    where
      by : (o : Option Repo) → repo_at w name ≡ o → BlobsStay w (update_repo w name f o)
      by None is = λ q digest bytes at. at
      by (Some r) is = repo_put (f r) (Some r) is (λ s e. subst_stay s e)
        where
          subst_stay : (s : Repo) → Some r ≡ Some s → Stay s (f r)
          subst_stay s e digest bytes at = stays r digest bytes (ap (λ (x : Repo). get x.blobs digest) (same_Some r s e) ∙ at)

  pub quota_set : (quota : ℕ) → BlobsStay w (set_repo w name quota)
  quota_set quota = by (repo_at w name) refl
    where
      by : (o : Option Repo) → repo_at w name ≡ o → BlobsStay w (with_repo w name (with_quota o quota))
      by None is = repo_put (with_quota None quota) None is (λ r e. cc)
      by (Some r) is = repo_put (with_quota (Some r) quota) (Some r) is (λ s e digest bytes at. ap (λ (x : Repo). get x.blobs digest) (same_Some r s e) ∙ at)

-- ---- what is known of shared bytes behind a write

module _ (m : BTreeMap Text Bytes) (before honest : Type 0) (k k' : Kept) (early : honest → before) (are : AreShared m before k) where
  moved : (w : World) → BlobsStay k.world w → honest → k.spent ≡ false → k'.world ≡ w → AreBlobsOf m k'.world
  moved w stay h unspent is = record {
    each = λ repo blobs at. record {
      each = λ digest b found v target. ap (λ x. blob_at x repo digest) is ∙ stay repo digest v.items (((are (early h) unspent).each repo blobs at).each digest b found v target);
    };
  }

  kept : honest → k.spent ≡ false → k' ≡ k → AreBlobsOf m k'.world
  kept h unspent is = moved k.world (λ name digest bytes at. at) h unspent (ap (λ (x : Kept). x.world) is)

  failed : {P : Type 0} → k'.spent ≡ true → k'.spent ≡ false → P
  failed spent unspent = absurd (true≢false (sym spent ∙ unspent))

  pub shared_written : {A : Type 0} (r : Result A Fault) (w : World) → BlobsStay k.world w → (honest → Writes r w k k') → Spends r k k' → AreShared m honest k'
  shared_written (Ok v) w stay is spends = λ h unspent. moved w stay h spends.0 (ap (λ (x : Kept). x.world) (is h))
  shared_written (Err Memory) w stay is spends = λ h unspent. kept h spends.0 (is h)
  shared_written (Err Storage) w stay is spends = λ h unspent. failed spends unspent

  pub shared_written_by : {A B : Type 0} (show : A → B) (r : Result A Fault) (value : B) (w : World) → BlobsStay k.world w → (honest → WritesBy show r value w k k') → Spends r k k' → AreShared m honest k'
  shared_written_by show (Ok v) value w stay is spends = λ h unspent. moved w stay h spends.0 (ap (λ (x : Kept). x.world) (is h).1)
  shared_written_by show (Err Memory) value w stay is spends = λ h unspent. kept h spends.0 (is h)
  shared_written_by show (Err Storage) value w stay is spends = λ h unspent. failed spends unspent

  pub shared_written_where : (r : Result Bool Fault) (so : Bool) (w : World) → BlobsStay k.world w → (honest → WritesWhereSo r so w k k') → Spends r k k' → AreShared m honest k'
  shared_written_where (Ok true) so w stay is spends = λ h unspent. moved w stay h spends.0 (ap (λ (x : Kept). x.world) (is h).1)
  shared_written_where (Ok false) so w stay is spends = λ h unspent. kept h spends.0 (is h)
  shared_written_where (Err Memory) so w stay is spends = λ h unspent. kept h spends.0 (is h)
  shared_written_where (Err Storage) so w stay is spends = λ h unspent. failed spends unspent

  pub shared_read : {A B : Type 0} (show : A → B) (r : Result A Fault) (value : B) → (honest → ReadsBy show r value k k') → Spends r k k' → AreShared m honest k'
  shared_read show (Ok v) value is spends = λ h unspent. kept h spends.0 (is h).1
  shared_read show (Err Memory) value is spends = λ h unspent. kept h spends.0 (is h)
  shared_read show (Err Storage) value is spends = λ h unspent. failed spends unspent

  pub shared_read_so : {A : Type 0} (IsSo : A → Type 0) (r : Result A Fault) → (honest → ReadsSo IsSo r k k') → Spends r k k' → AreShared m honest k'
  shared_read_so IsSo (Ok v) is spends = λ h unspent. kept h spends.0 (is h).1
  shared_read_so IsSo (Err Memory) is spends = λ h unspent. kept h spends.0 (is h)
  shared_read_so IsSo (Err Storage) is spends = λ h unspent. failed spends unspent
