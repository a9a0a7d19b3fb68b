-- The push of a manifest to a repository that is there.
use Rattle.std.proofs.Common.{◌≡◌, ◌∙◌, ℕ, zero, suc, ◌+◌, ◌<◌, List, [], ◌∷◌, ◌++◌, length, take, get_or, add-one, Bool, true, false, cond, not, ◌&&◌, ◌||◌, None, Some, Ok, Err, String, Global, refl, sym, ap, subst, arith}
use Rattle.std.specs.Prelude.{Option, option_map, is_some, nat_lt, Result}
use Rattle.std.specs.Option.{option_and_then, option_map_or}
use Rattle.std.specs.List.{list_all}
use Rattle.std.specs.FinMap.{get}
use Rattle.std.proofs.Math.Seq.{take-suc}
use Rattle.std.proofs.lemmas.List.Folds.{list_all-append}
use Rattle.oci_types.specs.Text.{Text}
use Rattle.oci_types.specs.Tag.{is_tag}
use Rattle.oci_types.specs.Digest.{is_digest, is_verified, matches, sha256_digest, verdict_of}
use Rattle.oci_types.specs.Reference.{IsSaidBy, is_reference}
use Rattle.oci_types.specs.declared.reference.Reference.{Reference}
use Rattle.oci_types.specs.declared.reference.Reference.TheVariants.{Tag, Digest}
use Rattle.oci_types.specs.declared.fault.Fault.{Fault}
use Rattle.oci_types.specs.declared.digest.Verdict.{Verdict}
use Rattle.oci_types.specs.declared.digest.Verdict.TheVariants.{Matches, Differs, Unsupported}
use Rattle.oci_types.specs.declared.manifest_fault.ManifestFault.{ManifestFault}
use Rattle.oci_types.specs.Manifest.{ManifestShown, manifest_in}
use Rattle.registry_model.specs.declared.refusal.Refusal.TheVariants.{InvalidReference, ContentTooLarge, InvalidDigest, DigestMismatch, InvalidManifest, ManifestBlobUnknown, QuotaExceeded}
use Rattle.registry_model.specs.declared.refusal.Refusal.{Refusal}
use Rattle.registry_model.specs.declared.reply.Reply.{Reply}
use Rattle.registry_model.specs.Doing.{course_of_answer, answered}
use Rattle.registry_model.specs.Heads.{is_sent}
use Rattle.registry_model.specs.World.{Repo, World, repo_at, has_repo}
use Rattle.registry_model.specs.Limits.{largest_manifest}
use Rattle.registry_model.specs.Answer.{Answer, refused}
use Rattle.registry_model.specs.Decision.{Decision, refuses, makes, within_quota}
use Rattle.registry_model.specs.Manifests.{content_type_fits, has_needs, with_manifest, created_manifest, push_read, push_manifest, pushed_digest, pushed_tag}
use Rattle.registry_model.specs.Lookups.{blob_size_at, put_manifest}
use Rattle.registry_model.specs.Keeping.{Kept, goes_on}
use Rattle.operation_parts.specs.Operating.{Operates}
use Rattle.operation_parts.specs.Quota.{grows_over, new_length, manifest_grows_over}
use Rattle.manifest_operations.specs.Push.{has_needs_at, kept_answer, keep_manifest, push_typed, push_under, push_checked}
use Rattle.operation_parts.proofs.RepoOutcomes.{there_is, Done, told, made}
use Rattle.manifest_operations.proofs.ManifestLemmas.{digest_is_no_tag, no_reference_is_no_tag, no_reference_is_no_digest}
use Rattle.operation_parts.proofs.DigestLemmas.{and_false}
use Rattle.manifest_operations.proofs.SayingLemmas.{refusal_answers}
use Rattle.operation_parts.proofs.QuotaLemmas.{manifest_over}

-- ---- what is needed

is_some_length : (o : Option Text) → is_some (option_map length o) ≡ is_some o
is_some_length None = refl
is_some_length (Some t) = refl

-- what is asked of sizes is what is asked of bytes
needs_in : (o : Option Repo) (r : Repo) → o ≡ Some r → (needs : List Text)
    → list_all (λ digest. is_some (option_map length (option_and_then (λ r. get r.blobs digest) o))) needs ≡ has_needs r needs
needs_in o r at needs =
    ap (λ o. list_all (λ digest. is_some (option_map length (option_and_then (λ (r : Repo). get r.blobs digest) o))) needs) at
    ∙ ap (λ (p : Text → Bool). list_all p needs) (λ i digest. is_some_length (get r.blobs digest) i)

module _ (w : World) (name : Text) (needs : List Text) (index : ℕ) (digest : Text) (size : Option ℕ) (low : index < length needs) (at : digest ≡ get_or needs index digest)
    (found : size ≡ blob_size_at w name digest) where
  -- one more is there
  pub has_more : has_needs_at w name (take index needs) ≡ true → is_some size ≡ true → has_needs_at w name (take (index + 1) needs) ≡ true
  has_more before there =
      let more : take (index + 1) needs ≡ take index needs ++ digest ∷ [] =
      ap (λ n. take n needs) (add-one index) ∙ take-suc needs index digest low ∙ ap (λ d. take index needs ++ d ∷ []) (sym at) in
      ap (has_needs_at w name) more ∙ list_all-append (λ d. is_some (blob_size_at w name d)) (take index needs) (digest ∷ [])
      ∙ ap (λ b. b && (is_some (blob_size_at w name digest) && true)) before ∙ ap (λ b. b && true) (ap is_some (sym found) ∙ there)

  -- one is not
  pub lacks_one : is_some size ≡ false → false ≡ has_needs_at w name needs
  lacks_one gone =
      sym (lacks_at (λ d. is_some (blob_size_at w name d)) needs index digest low
      (ap (λ d. is_some (blob_size_at w name d)) (sym at) ∙ ap is_some (sym found) ∙ gone))
    where
      lacks_at : (p : Text → Bool) (ds : List Text) (i : ℕ) (d : Text) → i < length ds → p (get_or ds i d) ≡ false → list_all p ds ≡ false
      lacks_at p [] i d low fails = absurd (omega arith)
      lacks_at p (x ∷ xs) zero d low fails = ap (λ b. b && list_all p xs) fails
      lacks_at p (x ∷ xs) (suc i) d low fails = ap (λ b. p x && b) (lacks_at p xs i d (omega arith) fails) ∙ and_false (p x)

-- ---- what is kept

module _ (s : Kept) (name digest : Text) (tag : Option Text) (body : Text) (m : ManifestShown) (there : has_repo s.world name ≡ true) (unspent : s.spent ≡ false) where
  -- a needed blob is not there
  pub needs_more : (s' : Kept) → s' ≡ s → (b : Bool) → b ≡ has_needs_at s.world name m.needs → b ≡ false
      → (a : Answer) → a ≡ refused ManifestBlobUnknown → Done a name (λ r. keep_manifest r name digest tag body m) s s'
  needs_more s' same b found fails a e =
      let r = there_is (repo_at s.world name) there in
      let test : has_needs r.0 m.needs ≡ false = sym (needs_in (repo_at s.world name) r.0 r.1 m.needs) ∙ sym found ∙ fails in
      told s s' name (λ r. keep_manifest r name digest tag body m) r.0 r.1 a _ e unspent same
      (ap (λ b. cond (not b) (refuses ManifestBlobUnknown) (within_quota r.0 (with_manifest r.0 digest body tag) (created_manifest name digest m.subject))) test)

  module _ (mid s' : Kept) (first : mid ≡ s) (second : s' ≡ mid) (b : Bool) (found : b ≡ has_needs_at s.world name m.needs) (all : b ≡ true)
      (over : Bool) (asked : over ≡ manifest_grows_over mid.world name digest (length body)) where
    at_repo : (r : Repo) → repo_at s.world name ≡ Some r
        → keep_manifest r name digest tag body m ≡ cond over (refuses QuotaExceeded) (makes (created_manifest name digest m.subject) (with_manifest r digest body tag))
    at_repo r at =
        let test : has_needs r m.needs ≡ true = sym (needs_in (repo_at s.world name) r at m.needs) ∙ sym found ∙ all in
        let here : over ≡ grows_over r (new_length (get r.manifests digest) (length body)) 0 =
        asked ∙ ap {A = Kept} (λ x. manifest_grows_over x.world name digest (length body)) first
        ∙ ap (λ o. option_map_or (λ r. grows_over r (new_length (option_and_then (λ (r : Repo). get r.manifests digest) o) (length body)) 0) o
        (nat_lt 0 (new_length (option_and_then (λ (r : Repo). get r.manifests digest) o) (length body)))) at in
        ap (λ b. cond (not b) (refuses ManifestBlobUnknown) (within_quota r (with_manifest r digest body tag) (created_manifest name digest m.subject))) test
        ∙ ap (λ b. cond b (refuses QuotaExceeded) (makes (created_manifest name digest m.subject) (with_manifest r digest body tag))) (manifest_over r digest body tag ∙ sym here)

    -- too much
    pub goes_past : over ≡ true → (a : Answer) → a ≡ refused QuotaExceeded → Done a name (λ r. keep_manifest r name digest tag body m) s s'
    goes_past past a e =
        let r = there_is (repo_at s.world name) there in
        told s s' name (λ r. keep_manifest r name digest tag body m) r.0 r.1 a _ e unspent (second ∙ first)
        (at_repo r.0 r.1 ∙ ap (λ b. cond b (refuses QuotaExceeded) (makes (created_manifest name digest m.subject) (with_manifest r.0 digest body tag))) past)

    -- the manifest is kept
    pub keeps_it : over ≡ false → (after : Kept) → after ≡ goes_on s' (put_manifest s'.world name digest body tag)
        → (a : Answer) → a ≡ created_manifest name digest m.subject → Done a name (λ r. keep_manifest r name digest tag body m) s after
    keeps_it fails after wrote a e =
        let r = there_is (repo_at s.world name) there in
        made s after name (λ r. keep_manifest r name digest tag body m) r.0 r.1 a _ e (λ r. with_manifest r digest body tag)
        (wrote ∙ ap {A = Kept} {B = Kept} (λ m. goes_on m (put_manifest m.world name digest body tag)) (second ∙ first))
        (at_repo r.0 r.1 ∙ ap (λ b. cond b (refuses QuotaExceeded) (makes (created_manifest name digest m.subject) (with_manifest r.0 digest body tag))) fails)

-- what is kept is answered, with its content
pub kept_answers : (digest : Text) (subject : Option Text) (it : Result (String Global) Refusal) → course_of_answer (kept_answer digest subject it) ≡ answered
kept_answers digest subject (Ok location) = refl
kept_answers digest subject (Err e) = refusal_answers e

pub kept_sent : (digest : Text) (subject : Option Text) (it : Result (String Global) Refusal) → is_sent (kept_answer digest subject it).body ≡ true
kept_sent digest subject (Ok location) = refl
kept_sent digest subject (Err e) = refl

-- a content type of its kind
pub of_its_kind : (s s' : Kept) (name digest : Text) (tag content_type : Option Text) (body : Text) (m : ManifestShown) (b : Bool) → b ≡ content_type_fits content_type m.kind → b ≡ true
    → (a : Answer) → Done a name (λ r. keep_manifest r name digest tag body m) s s' → Done a name (λ r. push_typed r name digest tag content_type body m) s s'
of_its_kind s s' name digest tag content_type body m b fits ok a h =
    subst (λ (act : Repo → Decision). Done a name act s s')
    (λ i r. sym (ap (λ b. cond (not b) (refuses InvalidManifest) (keep_manifest r name digest tag body m)) (sym fits ∙ ok)) i) h

-- ---- what is refused on the way

module _ (s : Kept) (name digest : Text) (content_type : Option Text) (body : Text) (there : has_repo s.world name ≡ true) (unspent : s.spent ≡ false) where
  -- a content type of another kind
  pub other_type : (tag : Option Text) (m : ManifestShown) (b : Bool) → b ≡ content_type_fits content_type m.kind → b ≡ false
      → (a : Answer) → a ≡ refused InvalidManifest → Done a name (λ r. push_typed r name digest tag content_type body m) s s
  other_type tag m b fits fails a e =
      let r = there_is (repo_at s.world name) there in
      told s s name (λ r. push_typed r name digest tag content_type body m) r.0 r.1 a _ e unspent refl
      (ap (λ b. cond (not b) (refuses InvalidManifest) (keep_manifest r.0 name digest tag body m)) (sym fits ∙ fails))

  -- bytes that are no manifest
  pub unreadable : (tag : Option Text) (fault : ManifestFault) → manifest_in body ≡ Err fault
      → (a : Answer) → a ≡ refused InvalidManifest → Done a name (λ r. push_under r name digest tag content_type body (manifest_in body)) s s
  unreadable tag fault read a e =
      let r = there_is (repo_at s.world name) there in
      told s s name (λ r. push_under r name digest tag content_type body (manifest_in body)) r.0 r.1 a _ e unspent refl
      (ap (push_under r.0 name digest tag content_type body) read)

  -- a digest against which nothing can be verified
  pub unverified : (v : Verdict) → v ≡ verdict_of digest body → v ≡ Unsupported
      → (a : Answer) → a ≡ refused InvalidDigest → Done a name (λ r. push_checked r name digest content_type body (verdict_of digest body)) s s
  unverified v is found a e =
      let r = there_is (repo_at s.world name) there in
      told s s name (λ r. push_checked r name digest content_type body (verdict_of digest body)) r.0 r.1 a _ e unspent refl
      (ap (push_checked r.0 name digest content_type body) (sym is ∙ found))

  -- bytes of another digest
  pub differs : (v : Verdict) → v ≡ verdict_of digest body → v ≡ Differs
      → (a : Answer) → a ≡ refused DigestMismatch → Done a name (λ r. push_checked r name digest content_type body (verdict_of digest body)) s s
  differs v is found a e =
      let r = there_is (repo_at s.world name) there in
      told s s name (λ r. push_checked r name digest content_type body (verdict_of digest body)) r.0 r.1 a _ e unspent refl
      (ap (push_checked r.0 name digest content_type body) (sym is ∙ found))

matched : (v m : Bool) → cond v (cond m Matches Differs) Unsupported ≡ Matches → m ≡ true
matched true true e = refl
matched true false e = absurd (cc)
matched false m e = absurd (cc)

-- bytes of that digest
pub matches_it : (digest body : Text) → verdict_of digest body ≡ Matches → matches digest body ≡ true
matches_it digest body e = matched (is_verified digest) (matches digest body) e

-- ---- the whole push, by its steps

read_is : (r : Repo) (name reference : Text) (content_type : Option Text) (body : Text) (read : Result ManifestShown ManifestFault)
    → push_read r name reference content_type body read ≡ push_under r name (pushed_digest reference body) (pushed_tag reference) content_type body read
read_is r name reference content_type body (Err e) = refl
read_is r name reference content_type body (Ok m) = refl

module _ (r : Repo) (name reference : Text) (content_type : Option Text) (body : Text) where
  by_tests : Bool → Bool → Bool → Bool → Bool → Decision
  by_tests t d large v m =
      cond (not (t || d)) (refuses InvalidReference)
      (cond large (refuses ContentTooLarge)
      (cond (not (t || v)) (refuses InvalidDigest)
      (cond (not (t || m)) (refuses DigestMismatch)
      (push_under r name (cond t (sha256_digest body) reference) (cond t (Some reference) None) content_type body (manifest_in body)))))

  whole : push_manifest r name reference content_type body
      ≡ by_tests (is_tag reference) (is_digest reference) (nat_lt largest_manifest (length body)) (is_verified reference) (matches reference body)
  unfolding by_tests
  whole =
      ap (λ o. cond (not (is_tag reference || is_digest reference)) (refuses InvalidReference)
      (cond (nat_lt largest_manifest (length body)) (refuses ContentTooLarge)
      (cond (not (is_tag reference || is_verified reference)) (refuses InvalidDigest)
      (cond (not (is_tag reference || matches reference body)) (refuses DigestMismatch) o)))) (read_is r name reference content_type body (manifest_in body))

  large_tag : is_tag reference ≡ true → nat_lt largest_manifest (length body) ≡ true → push_manifest r name reference content_type body ≡ refuses ContentTooLarge
  unfolding by_tests
  large_tag t l =
      whole ∙ ap (λ t. by_tests t (is_digest reference) (nat_lt largest_manifest (length body)) (is_verified reference) (matches reference body)) t
      ∙ ap (λ l. by_tests true (is_digest reference) l (is_verified reference) (matches reference body)) l

  large_digest : is_digest reference ≡ true → nat_lt largest_manifest (length body) ≡ true → push_manifest r name reference content_type body ≡ refuses ContentTooLarge
  unfolding by_tests
  large_digest d l =
      whole ∙ ap (λ t. by_tests t (is_digest reference) (nat_lt largest_manifest (length body)) (is_verified reference) (matches reference body)) (digest_is_no_tag reference d)
      ∙ ap (λ d. by_tests false d (nat_lt largest_manifest (length body)) (is_verified reference) (matches reference body)) d
      ∙ ap (λ l. by_tests false true l (is_verified reference) (matches reference body)) l

  unnamed : is_reference reference ≡ false → push_manifest r name reference content_type body ≡ refuses InvalidReference
  unfolding by_tests
  unnamed n =
      whole ∙ ap (λ t. by_tests t (is_digest reference) (nat_lt largest_manifest (length body)) (is_verified reference) (matches reference body)) (no_reference_is_no_tag reference n)
      ∙ ap (λ d. by_tests false d (nat_lt largest_manifest (length body)) (is_verified reference) (matches reference body)) (no_reference_is_no_digest reference n)

  by_tag : is_tag reference ≡ true → nat_lt largest_manifest (length body) ≡ false
      → push_manifest r name reference content_type body ≡ push_under r name (sha256_digest body) (Some reference) content_type body (manifest_in body)
  unfolding by_tests
  by_tag t l =
      whole ∙ ap (λ t. by_tests t (is_digest reference) (nat_lt largest_manifest (length body)) (is_verified reference) (matches reference body)) t
      ∙ ap (λ l. by_tests true (is_digest reference) l (is_verified reference) (matches reference body)) l

  checked : (v m : Bool) → by_tests false true false v m ≡ push_checked r name reference content_type body (cond v (cond m Matches Differs) Unsupported)
  unfolding by_tests
  checked true true = refl
  checked true false = refl
  checked false m = refl

  by_digest : is_digest reference ≡ true → nat_lt largest_manifest (length body) ≡ false
      → push_manifest r name reference content_type body ≡ push_checked r name reference content_type body (verdict_of reference body)
  by_digest d l =
      whole ∙ ap (λ t. by_tests t (is_digest reference) (nat_lt largest_manifest (length body)) (is_verified reference) (matches reference body)) (digest_is_no_tag reference d)
      ∙ ap (λ d. by_tests false d (nat_lt largest_manifest (length body)) (is_verified reference) (matches reference body)) d
      ∙ ap (λ l. by_tests false true l (is_verified reference) (matches reference body)) l
      ∙ checked (is_verified reference) (matches reference body)

module _ (name reference : Text) (content_type : Option Text) (body : Text) where
  module _ (s : Kept) (there : has_repo s.world name ≡ true) (unspent : s.spent ≡ false) (a : Answer) where
    refuses_large_tag : is_tag reference ≡ true → nat_lt largest_manifest (length body) ≡ true → a ≡ refused ContentTooLarge
        → Done a name (λ r. push_manifest r name reference content_type body) s s
    refuses_large_tag t l e =
        let r = there_is (repo_at s.world name) there in
        told s s name (λ r. push_manifest r name reference content_type body) r.0 r.1 a _ e unspent refl (large_tag r.0 name reference content_type body t l)

    refuses_large_digest : is_digest reference ≡ true → nat_lt largest_manifest (length body) ≡ true → a ≡ refused ContentTooLarge
        → Done a name (λ r. push_manifest r name reference content_type body) s s
    refuses_large_digest d l e =
        let r = there_is (repo_at s.world name) there in
        told s s name (λ r. push_manifest r name reference content_type body) r.0 r.1 a _ e unspent refl (large_digest r.0 name reference content_type body d l)

    -- no reference
    pub refuses_unnamed : is_reference reference ≡ false → a ≡ refused InvalidReference → Done a name (λ r. push_manifest r name reference content_type body) s s
    refuses_unnamed n e =
        let r = there_is (repo_at s.world name) there in
        told s s name (λ r. push_manifest r name reference content_type body) r.0 r.1 a _ e unspent refl (unnamed r.0 name reference content_type body n)

    pub refuses_large : (v : Reference) → IsSaidBy reference v → nat_lt largest_manifest (length body) ≡ true → a ≡ refused ContentTooLarge
        → Done a name (λ r. push_manifest r name reference content_type body) s s
    refuses_large (Tag v) said l e = refuses_large_tag said.1 l e
    refuses_large (Digest v) said l e = refuses_large_digest said.1 l e

  module _ (result : Result Reply Fault) (s s' : Kept) (fits : nat_lt largest_manifest (length body) ≡ false) where
    pub pushes_tag : (tag : Text) → tag ≡ reference → is_tag reference ≡ true
        → Operates result name (λ r. push_under r name (sha256_digest body) (Some tag) content_type body (manifest_in body)) s s'
        → Operates result name (λ r. push_manifest r name reference content_type body) s s'
    pushes_tag tag same t h =
        subst (λ (act : Repo → Decision). Operates result name act s s')
        (λ i r. (ap (λ tag. push_under r name (sha256_digest body) (Some tag) content_type body (manifest_in body)) same ∙ sym (by_tag r name reference content_type body t fits)) i) h

    pub pushes_digest : (digest : Text) → digest ≡ reference → is_digest reference ≡ true
        → Operates result name (λ r. push_checked r name digest content_type body (verdict_of digest body)) s s'
        → Operates result name (λ r. push_manifest r name reference content_type body) s s'
    pushes_digest digest same d h =
        subst (λ (act : Repo → Decision). Operates result name act s s')
        (λ i r. (ap (λ digest. push_checked r name digest content_type body (verdict_of digest body)) same ∙ sym (by_digest r name reference content_type body d fits)) i) h
